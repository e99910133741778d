-- That the event lies within the input is a law.
use Rattle.std.proofs.Common.{rules, Some}
use Rattle.events.specs.declared.Event.TheVariants.{Bad}
use Rattle.events.proofs.EventLaws.{event_within, event_cut, event_whole, event_unknown}
use Rattle.events.proofs.event_at.Goals as goal

pub returns-in_default-clause-within : goal.returns-in_default-clause-within
returns-in_default-clause-within c = event_within c.args.input.now c.args.at {read = Some Bad} (search (rules, event_unknown))

pub returns-then-input-at-2-clause-within : goal.returns-then-input-at-2-clause-within
returns-then-input-at-2-clause-within c = event_within c.args.input.now c.args.at {read = Some Bad} (search (rules, event_cut))

pub returns-clause-within : goal.returns-clause-within
returns-clause-within c = event_within c.args.input.now c.args.at {read = Some c.whole_event.result} (search (rules, event_whole))

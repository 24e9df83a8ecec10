-- `commands::effects::late_effect` meets its contract: two of its arms. Assumes nothing.
use Rattle.commands.specs.Commands.{table, entry_at}
use Rattle.commands.specs.Refusals.{no_refraction, no_meeting}
use Rattle.commands.specs.Effects.{unless}
use Rattle.commands.proofs.LateLaws.{in_order, arm, past_table}
use Rattle.commands.proofs.effects.late_effect.Goals as goal

pub returns-in-2 : goal.returns-in-2
unfolding in_order entry_at table no_refraction no_meeting unless
returns-in-2 c = arm _ _ 2 c.in-2.is c.direction.ensures

pub returns-in_default : goal.returns-in_default
returns-in_default c = past_table _ _ c.in_default.in_default-own.rest c.empties-in_default.ensures

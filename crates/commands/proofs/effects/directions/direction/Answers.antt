-- `commands::effects::directions::direction` meets its contract. Assumes nothing.
use mathlib.Core.Path.{◌≡◌, sym, ap, ◌∙◌, subst}
use lib.Dec.{T}
use Rattle.vector.specs.Normalizing.{try_normalize}
use Rattle.vector.specs.DirectionOf.{direction_of}
use Rattle.vector.specs.ExactVectors.{F32Vec}
use Rattle.vector.proofs.scaling.NoDirectionLaws.{direction_is_scaled}
use Rattle.commands.specs.Refusals.{is_nothing, lacks_direction, not_finite}
use Rattle.commands.specs.Answers.{answer_of}
use Rattle.commands.specs.Effects.{effect_by, effect_of, direction_in, unless, settled}
use Rattle.commands.proofs.effects.directions.direction.Goals as goal

pub returns-in_default : goal.returns-in_default
unfolding effect_by settled unless lacks_direction is_nothing answer_of
returns-in_default c =
    let held : F32Vec c.args.v = record { f32_x = subst T (sym c.well_formed.0.1.1.0.1) tt; f32_y = subst T (sym c.well_formed.0.1.1.1.0.1) tt; f32_z = subst T (sym c.well_formed.0.1.1.1.1.0.1) tt } in
    let found : c.try_normalize.result ≡ direction_of c.args.v = c.try_normalize.ensures.direction ∙ ap try_normalize c.scaled.ensures ∙ direction_is_scaled c.args.v held in
    simp (c.in_default.is, ← found)

pub returns : goal.returns
unfolding effect_by settled unless lacks_direction not_finite is_nothing effect_of direction_in
returns c =
    let held : F32Vec c.args.v = record { f32_x = subst T (sym c.well_formed.0.1.1.0.1) tt; f32_y = subst T (sym c.well_formed.0.1.1.1.0.1) tt; f32_z = subst T (sym c.well_formed.0.1.1.1.1.0.1) tt } in
    let found : c.try_normalize.result ≡ direction_of c.args.v = c.try_normalize.ensures.direction ∙ ap try_normalize c.scaled.ensures ∙ direction_is_scaled c.args.v held in
    simp (c.in-Some.is, ← found)

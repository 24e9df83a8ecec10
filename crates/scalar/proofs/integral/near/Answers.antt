-- `scalar::integral::near` meets its contract. Assumes nothing.
use mathlib.Core.Path.{◌≡◌, sym, ap, ◌∙◌, subst}
use mathlib.Core.Bool.{true}
use lib.Dec.{T}
use lib.Ieee.{Float, binary32, fits, lt}
use Rattle.scalar.proofs.whole_numbers.IntegralSums.{whole, small_number, nearest_number, round_sum}
use Rattle.scalar.proofs.integral.near.Goals as goal

pub size-requires : goal.size-requires
size-requires c = small_number c.args.x c.requires

pub signed-requires : goal.signed-requires
signed-requires c =
    let held : T (fits binary32 c.args.x) = subst T (sym c.well_formed.0.1) tt in
    let small : lt c.size.result whole ≡ true = ap (λ (y : Float). lt y whole) c.size.ensures ∙ c.requires in
    record { number = nearest_number c.args.x c.size.result held c.size.ensures small; sign_number = small_number c.args.x c.requires }

pub returns : goal.returns
returns c =
    let held : T (fits binary32 c.args.x) = subst T (sym c.well_formed.0.1) tt in
    let small : lt c.size.result whole ≡ true = ap (λ (y : Float). lt y whole) c.size.ensures ∙ c.requires in
    c.signed.ensures ∙ round_sum c.args.x c.size.result held c.size.ensures small

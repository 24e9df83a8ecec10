-- `clamp` lies between its bounds wherever they are in order, that of a NaN too. Assumes nothing.
use mathlib.Core.Bool.{Bool, true, false, cond}
use lib.Dec.{T}
use lib.Ieee.{Float, lt, eq, le, of_bits}
use Rattle.std.proofs.lemmas.Float.{le_refl, le_of_lt, le_left, le_right}
use Rattle.vector.specs.declared.vec3.Vec3.{Vec3}
use Rattle.vector.specs.Vectors.{zer, one, ZERO, ONE}
use Rattle.vector.specs.Elements.{lesser, greater, min, max, clamp}
use Rattle.vector.specs.Rounding.{saturate}
use Rattle.vector.specs.ElementsMeaning.{AtMost, Clamped}

above : (a lo : Float) → T (le lo lo) → T (le lo (greater a lo))
unfolding greater
above a lo self = go (lt lo a) (le_of_lt lo a)
  where
    go : (b : Bool) → (T b → T (le lo a)) → T (le lo (cond b a lo))
    go true h = h tt
    go false h = self

between : (g lo hi : Float) → T (le lo g) → T (le lo hi) → T (le lo (lesser g hi)) × T (le (lesser g hi) hi)
unfolding lesser
between g lo hi low order = go (lt g hi) (le_of_lt g hi)
  where
    go : (b : Bool) → (T b → T (le g hi)) → T (le lo (cond b g hi)) × T (le (cond b g hi) hi)
    go true h = (low, h tt)
    go false h = (order, le_refl hi (le_right lo hi order))

clamped_number : (a lo hi : Float) → T (le lo hi) → T (le lo (lesser (greater a lo) hi)) × T (le (lesser (greater a lo) hi) hi)
clamped_number a lo hi order = between (greater a lo) lo hi (above a lo (le_refl lo (le_left lo hi order))) order

pub clamped : (a lo hi : Vec3) → AtMost lo hi → Clamped lo hi (clamp a lo hi)
unfolding clamp min max
clamped a lo hi order =
    let x = clamped_number a.x lo.x hi.x order.x in
    let y = clamped_number a.y lo.y hi.y order.y in
    let z = clamped_number a.z lo.z hi.z order.z in
    record { above = record { x = x.0; y = y.0; z = z.0 }; below = record { x = x.1; y = y.1; z = z.1 } }

pub saturated : (a : Vec3) → Clamped ZERO ONE (saturate a)
unfolding saturate
saturated a = clamped a ZERO ONE (record { x = order; y = order; z = order })
  where
    order : T (le zer one)
    order = unfold le lt eq of_bits in tt

-- What specs/Commands' table promises of each row, row by row, and so of each command that there is. Assumes nothing.
use Prim.Native.Nat.{ℕ, ◌≤◌}
use mathlib.Core.Path.{refl}
use native.Mathlib.Omega.{arith}
use lib.Ieee.{binary32}
use lib.Ieee.Fits.{add-fits}
use Rattle.laws.proofs.numbers.BoolLaws.{cond_any}
use Rattle.scalar.proofs.floats.FitsLaws.{Fits32}
use Rattle.vector.specs.declared.vec3.Vec3.{Vec3}
use Rattle.vector.specs.Operators.{add, sub}
use Rattle.vector.specs.Elements.{min, max, min_position, max_position}
use Rattle.vector.specs.Comparisons.{cmple}
use Rattle.vector.specs.Masks.{bitmask}
use Rattle.vector.specs.Products.{dot, cross, length_and_exactness, distance_and_exactness}
use Rattle.vector.specs.Interpolation.{lerp, move_towards, midpoint}
use Rattle.vector.specs.Rounding.{trunc, floor, round, div_euclid, rem_euclid}
use Rattle.vector.specs.Optics.{angle_between}
use Rattle.vector.specs.Orthogonal.{any_orthogonal_vector}
use Rattle.vector.specs.ExactVectors.{F32Vec}
use Rattle.vector.proofs.values.VectorFits as Fit
use Rattle.commands.specs.Codes.{last}
use Rattle.commands.specs.Rows.{ModelRow}
use Rattle.commands.specs.Fields.{Sources}
use Rattle.commands.specs.Planes.{offset_through, meeting}
use Rattle.commands.specs.Results.{is_direction}
use Rattle.commands.specs.Commands.{by_kind, table, entry_at}
use Rattle.commands.proofs.table.EachLaws.{Each, each_at, ◌and◌}
use Rattle.commands.proofs.table.EntryLaws.{Lawful, lawful, point_a, point_ab, point_abu, number_ab, root_a, root_ab, whole_a, whole_ab}

-- 11 and 12: either function
by_kind_fits :
    (f g : Vec3 → Vec3 → Vec3) → ((a b : Vec3) → F32Vec (f a b)) → ((a b : Vec3) → F32Vec (g a b)) → (s : Sources) → F32Vec (by_kind f g s)
by_kind_fits f g p q s = cond_any F32Vec (is_direction s.b.kind) _ _ (p _ _) (q _ _)

-- 34: the offset; 36: the point
offset_fits : (a n : Vec3) → Fits32 (offset_through a n)
unfolding offset_through dot
offset_fits a n = add-fits binary32 _ _

meeting_fits : (a b : Vec3) (p : ModelRow) → F32Vec (meeting a b p)
unfolding meeting
meeting_fits a b p = Fit.sum_vector a _

-- ---- the whole table
rows_lawful : Each Lawful table
unfolding table
rows_lawful =
    lawful (λ s. refl) (λ s r. refl) (λ s r. refl) (λ s r. refl) (λ s v. tt)
    and lawful (λ s. refl) (λ s r. refl) (λ s r. refl) (λ s r. refl) (λ s v. record { f32_x = v.fits_u; f32_y = v.fits_v; f32_z = v.fits_w })
    and lawful (λ s. refl) tt (λ s r. refl) (λ s r. refl) (λ s v. v.fits_a)
    and point_ab add (λ a b p q. Fit.sum_vector a b)
    and point_ab sub (λ a b p q. Fit.difference_vector a b)
    and point_ab cross (λ a b p q. Fit.cross_vector a b)
    and point_ab min Fit.min_vector
    and point_ab max Fit.max_vector
    and lawful (λ s. refl) tt (λ s r. refl) (λ s r. refl) (λ s v. Fit.scaled_vector _ _)
    and lawful (λ s. refl) tt tt (λ s r. refl) (λ s v. Fit.fused_vector _ _ _)
    and lawful (λ s. refl) tt (λ s r. refl) (λ s r. refl) (λ s v. Fit.clamped_vector _ _ _ v.fits_a)
    and lawful (λ s. refl) tt tt (λ s r. refl) (λ s v. by_kind_fits _ _ Fit.projected_onto_unit Fit.projected_vector s)
    and lawful (λ s. refl) tt tt (λ s r. refl) (λ s v. by_kind_fits _ _ Fit.rejected_from_unit Fit.rejected_vector s)
    and point_abu lerp (λ a b u q. Fit.between_vector a b u)
    and point_abu move_towards Fit.moved_vector
    and point_ab midpoint (λ a b p q. Fit.middle_vector a b)
    and point_a trunc (λ a p. Fit.trunc_vector a)
    and point_a floor (λ a p. Fit.floor_vector a)
    and point_a round (λ a p. Fit.round_vector a)
    and point_ab div_euclid (λ a b p q. Fit.quotient_vector a b)
    and point_ab rem_euclid Fit.remainder_vector
    and point_a any_orthogonal_vector Fit.orthogonal_vector
    and lawful (λ s. refl) tt tt (λ s r. refl) (λ s v. Fit.unchecked_vector _)
    and lawful (λ s. refl) tt tt (λ s r. refl) (λ s v. Fit.unchecked_vector _)
    and lawful (λ s. (refl, refl)) tt (λ s r. refl) (λ s r. refl) (λ s v. (Fit.unchecked_vector _, Fit.unchecked_vector _))
    and number_ab dot
    and root_a length_and_exactness
    and root_ab distance_and_exactness
    and number_ab angle_between
    and whole_a min_position
    and whole_a max_position
    and whole_ab (λ (a b : Vec3). bitmask (cmple a b))
    and lawful (λ s. refl) tt (λ s r. refl) (λ s r. refl) (λ s v. tt)
    and lawful (λ s. (refl, refl)) (λ s r. refl) (λ s r. refl) (λ s r. refl) (λ s v. tt)
    and lawful (λ s. (refl, refl)) tt tt (λ s r. refl) (λ s v. (v.fits_b, offset_fits _ _))
    and lawful (λ s. refl) tt tt (λ s r. refl) (λ s v. tt)
    and lawful (λ s. refl) tt tt tt (λ s v. meeting_fits _ _ _)
    and lawful (λ s. refl) tt (λ s r. refl) (λ s r. refl) (λ s v. tt)
    and tt

-- so of the row of each command that there is
pub entry_lawful : (n : ℕ) → n ≤ last → Lawful n (entry_at n)
unfolding table entry_at
entry_lawful n h = each_at Lawful table _ rows_lawful n (omega arith)

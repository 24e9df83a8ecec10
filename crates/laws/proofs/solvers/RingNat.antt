-- The ring solver at the natural numbers: an equation of polynomials is proved by comparing normal forms.
-- `ring (a ∷ b ∷ []) left right refl` proves the value of `left` equal to that of `right`, `var 0` standing for a. Assumes nothing.
use mathlib.Core.Path.{◌≡◌}
use mathlib.Core.Bool.{Bool}
use mathlib.Core.List.{List}
use Prim.Native.Nat.{ℕ, ◌+◌, ◌*◌}
use native.Mathlib.Nat.{add-zero, add_comm, add_assoc, mul-one, mul-zero, mul_comm, mul_assoc, mul-add}
use lib.Dec.{eqb, eqb→eq}
use Rattle.laws.proofs.solvers.Ring.{Poly, Ex, Laws, normal, value, ev, ev_normal, solve}

abbrev pub is0 : ℕ → Bool
is0 n = eqb n 0

laws : Laws ℕ 0 1 ◌+◌ ◌*◌ is0
laws = record {
  add_zero = add-zero;
  add_comm = add_comm;
  add_assoc = add_assoc;
  mul_one = mul-one;
  mul_zero = mul-zero;
  mul_comm = mul_comm;
  mul_assoc = mul_assoc;
  mul_add = mul-add;
  is_zero = λ a t. eqb→eq a 0 t;
}

abbrev pub Expr : Type 0
Expr = Ex ℕ

abbrev pub nf : Expr → Poly ℕ
nf e = normal 0 1 ◌+◌ ◌*◌ is0 e

abbrev pub val : List ℕ → Expr → ℕ
val ρ e = value 0 1 ◌+◌ ◌*◌ is0 ρ e

pub ring : (ρ : List ℕ) (a b : Expr) → nf a ≡ nf b → val ρ a ≡ val ρ b
ring ρ a b h = solve 0 1 ◌+◌ ◌*◌ is0 laws ρ a b h

abbrev pub ev_n : List ℕ → Poly ℕ → ℕ
ev_n ρ p = ev 0 1 ◌+◌ ◌*◌ is0 ρ p

pub nf_val : (ρ : List ℕ) (e : Expr) → ev_n ρ (nf e) ≡ val ρ e
nf_val ρ e = ev_normal 0 1 ◌+◌ ◌*◌ is0 laws ρ e

-- The ring solver at the integers of lib.IntN, whose missing laws of products are proved first. Assumes nothing.
use mathlib.Core.Path.{◌≡◌, refl, sym, ap, ◌∙◌}
use mathlib.Core.Bool.{Bool, false}
use mathlib.Core.List.{List}
use Prim.Native.Nat.{ℕ}
use lib.Dec.{eqb, eqb→eq, T}
use lib.IntN.{ℤ, pos, negsuc, one, neg_ℤ, suc_ℤ, pred_ℤ, ◌+ℤ◌, ◌-ℤ◌, ◌*ℤ◌, ℤ_ind, +ℤ_idl, +ℤ_idr, +ℤ_comm, +ℤ_assoc, +ℤ_one, -ℤ_one, +ℤ_invr, +ℤ_invl, suc_ℤ-+ℤ, pred_ℤ-+ℤ, suc_ℤ-*ℤ, pred_ℤ-*ℤ, zero-*ℤ, *ℤ-zero, *ℤ-one, *ℤ_comm}
use Rattle.laws.proofs.solvers.Ring as R
use Rattle.laws.proofs.solvers.Ring.{Poly, Ex, Laws, at, normal, value, solve}

up : (b c m : ℤ) → (m +ℤ b) *ℤ c ≡ m *ℤ c +ℤ b *ℤ c → (suc_ℤ m +ℤ b) *ℤ c ≡ suc_ℤ m *ℤ c +ℤ b *ℤ c
up b c m h = ap (λ (x : ℤ). x *ℤ c) (suc_ℤ-+ℤ m b) ∙ suc_ℤ-*ℤ (m +ℤ b) c ∙ ap (λ (x : ℤ). x +ℤ c) h ∙ +ℤ_assoc (m *ℤ c) (b *ℤ c) c ∙ ap (λ (x : ℤ). m *ℤ c +ℤ x) (+ℤ_comm (b *ℤ c) c) ∙ sym (+ℤ_assoc (m *ℤ c) c (b *ℤ c)) ∙ ap (λ (x : ℤ). x +ℤ b *ℤ c) (sym (suc_ℤ-*ℤ m c))

down : (b c m : ℤ) → (m +ℤ b) *ℤ c ≡ m *ℤ c +ℤ b *ℤ c → (pred_ℤ m +ℤ b) *ℤ c ≡ pred_ℤ m *ℤ c +ℤ b *ℤ c
down b c m h = ap (λ (x : ℤ). x *ℤ c) (pred_ℤ-+ℤ m b) ∙ pred_ℤ-*ℤ (m +ℤ b) c ∙ ap (λ (x : ℤ). x -ℤ c) h ∙ +ℤ_assoc (m *ℤ c) (b *ℤ c) (neg_ℤ c) ∙ ap (λ (x : ℤ). m *ℤ c +ℤ x) (+ℤ_comm (b *ℤ c) (neg_ℤ c)) ∙ sym (+ℤ_assoc (m *ℤ c) (neg_ℤ c) (b *ℤ c)) ∙ ap (λ (x : ℤ). x +ℤ b *ℤ c) (sym (pred_ℤ-*ℤ m c))

-- induction by successor and predecessor
ind : (P : ℤ → Type 0) → P (pos 0) → ((m : ℤ) → P m → P (suc_ℤ m)) → ((m : ℤ) → P m → P (pred_ℤ m)) → (m : ℤ) → P m
ind P z s p m = ℤ_ind P z (λ n h. rw (+ℤ_one (pos n)) (s (pos n) h)) (λ n h. rw (-ℤ_one (neg_ℤ (pos n))) (p (neg_ℤ (pos n)) h)) m

pub +-* : (a b c : ℤ) → (a +ℤ b) *ℤ c ≡ a *ℤ c +ℤ b *ℤ c
+-* a b c =
    ind (λ (a : ℤ). (a +ℤ b) *ℤ c ≡ a *ℤ c +ℤ b *ℤ c)
    (ap (λ (x : ℤ). x *ℤ c) (+ℤ_idl b) ∙ sym (ap (λ (x : ℤ). x +ℤ b *ℤ c) (zero-*ℤ c) ∙ +ℤ_idl (b *ℤ c)))
    (up b c) (down b c) a

pub *-+ : (a b c : ℤ) → a *ℤ (b +ℤ c) ≡ a *ℤ b +ℤ a *ℤ c
*-+ a b c = *ℤ_comm a (b +ℤ c) ∙ +-* b c a ∙ ap (λ (x : ℤ). x +ℤ c *ℤ a) (*ℤ_comm b a) ∙ ap (λ (x : ℤ). a *ℤ b +ℤ x) (*ℤ_comm c a)

*-assoc : (a b c : ℤ) → a *ℤ b *ℤ c ≡ a *ℤ (b *ℤ c)
*-assoc a b c =
    ind (λ (a : ℤ). a *ℤ b *ℤ c ≡ a *ℤ (b *ℤ c))
    (ap (λ (x : ℤ). x *ℤ c) (zero-*ℤ b) ∙ zero-*ℤ c ∙ sym (zero-*ℤ (b *ℤ c)))
    (λ m h. ap (λ (x : ℤ). x *ℤ c) (suc_ℤ-*ℤ m b) ∙ +-* (m *ℤ b) b c ∙ ap (λ (x : ℤ). x +ℤ b *ℤ c) h ∙ sym (suc_ℤ-*ℤ m (b *ℤ c)))
    (λ m h. ap (λ (x : ℤ). x *ℤ c) (pred_ℤ-*ℤ m b) ∙ +-* (m *ℤ b) (neg_ℤ b) c ∙ ap (λ (x : ℤ). x +ℤ neg_ℤ b *ℤ c) h ∙ ap (λ (x : ℤ). m *ℤ (b *ℤ c) +ℤ x) (neg-* b c) ∙ sym (pred_ℤ-*ℤ m (b *ℤ c)))
    a
  where
    -- b * c + (neg_ℤ b) * c is 0, so the second is the first's negation
    neg-* : (b c : ℤ) → neg_ℤ b *ℤ c ≡ neg_ℤ (b *ℤ c)
    neg-* b c =
        sym (+ℤ_idl (neg_ℤ b *ℤ c))
        ∙ ap (λ (x : ℤ). x +ℤ neg_ℤ b *ℤ c) (sym (+ℤ_invl (b *ℤ c)))
        ∙ +ℤ_assoc (neg_ℤ (b *ℤ c)) (b *ℤ c) (neg_ℤ b *ℤ c)
        ∙ ap (λ (x : ℤ). neg_ℤ (b *ℤ c) +ℤ x) (sym (+-* b (neg_ℤ b) c) ∙ ap (λ (x : ℤ). x *ℤ c) (+ℤ_invr b) ∙ zero-*ℤ c)
        ∙ +ℤ_idr (neg_ℤ (b *ℤ c))

abbrev pub is0 : ℤ → Bool
is0 (pos n) = eqb n 0
is0 (negsuc n) = false

is_0 : (z : ℤ) → T (is0 z) → z ≡ pos 0
is_0 (pos n) t = ap pos (eqb→eq n 0 t)
is_0 (negsuc n) t = absurd t

mul_1 : (a : ℤ) → a *ℤ pos 1 ≡ a
unfolding one
mul_1 a = *ℤ-one a

laws : Laws ℤ (pos 0) (pos 1) ◌+ℤ◌ ◌*ℤ◌ is0
laws = record {
  add_zero = +ℤ_idr;
  add_comm = +ℤ_comm;
  add_assoc = +ℤ_assoc;
  mul_one = mul_1;
  mul_zero = *ℤ-zero;
  mul_comm = *ℤ_comm;
  mul_assoc = *-assoc;
  mul_add = *-+;
  is_zero = is_0;
}

pub data Expr : Type 0 where
  var : ℕ → Expr
  lit : ℤ → Expr
  ◌⊕◌ : Expr → Expr → Expr
  ◌⊗◌ : Expr → Expr → Expr
  ⊖◌ : Expr → Expr

infixl 6 ◌⊕◌
infixl 7 ◌⊗◌
infix 8 ⊖◌
abbrev pub val : List ℤ → Expr → ℤ
val ρ (var i) = at (pos 0) ρ i
val ρ (lit a) = a
val ρ (a ⊕ b) = val ρ a +ℤ val ρ b
val ρ (a ⊗ b) = val ρ a *ℤ val ρ b
val ρ (⊖ a) = neg_ℤ (val ρ a)

abbrev pub plain : Expr → Ex ℤ
plain (var i) = R.var i
plain (lit a) = R.lit a
plain (a ⊕ b) = R.◌⊕◌ (plain a) (plain b)
plain (a ⊗ b) = R.◌⊗◌ (plain a) (plain b)
plain (⊖ a) = R.◌⊗◌ (R.lit (negsuc 0)) (plain a)

neg_one : (a : ℤ) → negsuc 0 *ℤ a ≡ neg_ℤ a
neg_one a = pred_ℤ-*ℤ (pos 0) a ∙ ap (λ (x : ℤ). x -ℤ a) (zero-*ℤ a) ∙ +ℤ_idl (neg_ℤ a)

abbrev pub nf : Expr → Poly ℤ
nf e = normal (pos 0) (pos 1) ◌+ℤ◌ ◌*ℤ◌ is0 (plain e)

abbrev val_r : List ℤ → Ex ℤ → ℤ
val_r ρ e = value (pos 0) (pos 1) ◌+ℤ◌ ◌*ℤ◌ is0 ρ e

plain_is : (ρ : List ℤ) (e : Expr) → val_r ρ (plain e) ≡ val ρ e
plain_is ρ (var i) = refl
plain_is ρ (lit a) = refl
plain_is ρ (a ⊕ b) = ap (λ (x : ℤ). x +ℤ val_r ρ (plain b)) (plain_is ρ a) ∙ ap (λ (x : ℤ). val ρ a +ℤ x) (plain_is ρ b)
plain_is ρ (a ⊗ b) = ap (λ (x : ℤ). x *ℤ val_r ρ (plain b)) (plain_is ρ a) ∙ ap (λ (x : ℤ). val ρ a *ℤ x) (plain_is ρ b)
plain_is ρ (⊖ a) = neg_one (val_r ρ (plain a)) ∙ ap neg_ℤ (plain_is ρ a)

pub ringℤ : (ρ : List ℤ) (a b : Expr) → nf a ≡ nf b → val ρ a ≡ val ρ b
ringℤ ρ a b h = sym (plain_is ρ a) ∙ solve (pos 0) (pos 1) ◌+ℤ◌ ◌*ℤ◌ is0 laws ρ (plain a) (plain b) h ∙ plain_is ρ b

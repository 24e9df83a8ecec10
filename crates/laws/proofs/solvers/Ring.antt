-- A solver for equations in a commutative semiring: an expression becomes a polynomial in Horner's form, which is unique. Assumes nothing.
use mathlib.Core.Path.{◌≡◌, refl, sym, ap, ◌∙◌}
use mathlib.Core.Bool.{Bool, true, false, cond}
use mathlib.Core.List.{List, [], ◌∷◌}
use Prim.Native.Nat.{ℕ, zero, suc}
use lib.Dec.{T}

-- a polynomial in Horner's form: `horn p q` is p + x * q, x the first variable, which p does not have
pub data Poly (A : Type 0) : Type 0 where
  con : A → Poly A
  horn : Poly A → Poly A → Poly A

-- an expression
pub data Ex (A : Type 0) : Type 0 where
  var : ℕ → Ex A
  lit : A → Ex A
  ◌⊕◌ : Ex A → Ex A → Ex A
  ◌⊗◌ : Ex A → Ex A → Ex A

infixl 6 ◌⊕◌
infixl 7 ◌⊗◌
module _ (A : Type 0) (z o : A) (◌+◌ ◌*◌ : A → A → A) (isz : A → Bool) where
  infixl 6 ◌+◌
  infixl 7 ◌*◌
  pub record Laws : Type 0 where
    pub add_zero : (a : A) → a + z ≡ a
    pub add_comm : (a b : A) → a + b ≡ b + a
    pub add_assoc : (a b c : A) → a + b + c ≡ a + (b + c)
    pub mul_one : (a : A) → a * o ≡ a
    pub mul_zero : (a : A) → a * z ≡ z
    pub mul_comm : (a b : A) → a * b ≡ b * a
    pub mul_assoc : (a b c : A) → a * b * c ≡ a * (b * c)
    pub mul_add : (a b c : A) → a * (b + c) ≡ a * b + a * c
    pub is_zero : (a : A) → T (isz a) → a ≡ z

abbrev pub hd : {A : Type 0} → A → List A → A
hd z [] = z
hd z (x ∷ xs) = x

abbrev pub tl : {A : Type 0} → List A → List A
tl [] = []
tl (x ∷ xs) = xs

abbrev pub at : {A : Type 0} → A → List A → ℕ → A
at z [] n = z
at z (x ∷ xs) zero = x
at z (x ∷ xs) (suc n) = at z xs n

module _ {A : Type 0} (z o : A) (◌+◌ ◌*◌ : A → A → A) (isz : A → Bool) where
  infixl 6 ◌+◌
  infixl 7 ◌*◌
  abbrev pub mk : Poly A → Poly A → Poly A
  mk (con c) (con d) = cond (isz d) (con c) (horn (con c) (con d))
  mk (con c) (horn r s) = horn (con c) (horn r s)
  mk (horn p q) r = horn (horn p q) r

  abbrev pub addc : A → Poly A → Poly A
  addc a (con b) = con (a + b)
  addc a (horn p q) = horn (addc a p) q

  abbrev pub plus : Poly A → Poly A → Poly A
  plus (con a) r = addc a r
  plus (horn p q) (con b) = addc b (horn p q)
  plus (horn p q) (horn r s) = mk (plus p r) (plus q s)

  abbrev pub scale : A → Poly A → Poly A
  scale a (con b) = con (a * b)
  scale a (horn p q) = mk (scale a p) (scale a q)

  abbrev pub low : (Poly A → Poly A) → Poly A → Poly A
  low f (con b) = mk (f (con b)) (con z)
  low f (horn r s) = mk (f r) (low f s)

  abbrev pub times : Poly A → Poly A → Poly A
  times (con a) r = scale a r
  times (horn p q) (con b) = scale b (horn p q)
  times (horn p q) (horn r s) = plus (low (times p) (horn r s)) (mk (con z) (times q (horn r s)))

  abbrev pub variable : ℕ → Poly A
  variable zero = horn (con z) (con o)
  variable (suc n) = horn (variable n) (con z)

  abbrev pub normal : Ex A → Poly A
  normal (var i) = variable i
  normal (lit a) = con a
  normal (a ⊕ b) = plus (normal a) (normal b)
  normal (a ⊗ b) = times (normal a) (normal b)

  abbrev pub value : List A → Ex A → A
  value ρ (var i) = at z ρ i
  value ρ (lit a) = a
  value ρ (a ⊕ b) = value ρ a + value ρ b
  value ρ (a ⊗ b) = value ρ a * value ρ b

  abbrev pub ev : List A → Poly A → A
  ev ρ (con c) = c
  ev ρ (horn p q) = ev (tl ρ) p + hd z ρ * ev ρ q

  module _ (L : Laws A z o ◌+◌ ◌*◌ isz) where
    open L use {add_zero, add_comm, add_assoc, mul_one, mul_zero, mul_comm, mul_assoc, mul_add, is_zero}

    add_left_comm : (a b c : A) → a + (b + c) ≡ b + (a + c)
    add_left_comm a b c = sym (add_assoc a b c) ∙ ap (λ (x : A). x + c) (add_comm a b) ∙ add_assoc b a c

    mul_left_comm : (a b c : A) → a * (b * c) ≡ b * (a * c)
    mul_left_comm a b c = sym (mul_assoc a b c) ∙ ap (λ (x : A). x * c) (mul_comm a b) ∙ mul_assoc b a c

    zero_add : (a : A) → z + a ≡ a
    zero_add a = add_comm z a ∙ add_zero a

    ev_mk : (ρ : List A) (p q : Poly A) → ev ρ (mk p q) ≡ ev (tl ρ) p + hd z ρ * ev ρ q
    ev_mk ρ (con c) (con d) = go (isz d) (is_zero d)
      where
        go : (b : Bool) → (T b → d ≡ z) → ev ρ (cond b (con c) (horn (con c) (con d))) ≡ c + hd z ρ * d
        go true h = sym (ap (λ (x : A). c + hd z ρ * x) (h tt) ∙ ap (λ (x : A). c + x) (mul_zero (hd z ρ)) ∙ add_zero c)
        go false h = refl
    ev_mk ρ (con c) (horn r s) = refl
    ev_mk ρ (horn p q) r = refl

    ev_addc : (ρ : List A) (a : A) (p : Poly A) → ev ρ (addc a p) ≡ a + ev ρ p
    ev_addc ρ a (con b) = refl
    ev_addc ρ a (horn p q) = ap (λ (x : A). x + hd z ρ * ev ρ q) (ev_addc (tl ρ) a p) ∙ add_assoc a (ev (tl ρ) p) (hd z ρ * ev ρ q)

    mix : (x a b c d : A) → (a + b) + x * (c + d) ≡ (a + x * c) + (b + x * d)
    mix x a b c d = simp (mul_add, add_assoc, add_left_comm)

    ev_plus : (ρ : List A) (p q : Poly A) → ev ρ (plus p q) ≡ ev ρ p + ev ρ q
    ev_plus ρ (con a) r = ev_addc ρ a r
    ev_plus ρ (horn p q) (con b) = ev_addc ρ b (horn p q) ∙ add_comm b (ev ρ (horn p q))
    ev_plus ρ (horn p q) (horn r s) =
        ev_mk ρ (plus p r) (plus q s)
        ∙ ap (λ (x : A). x + hd z ρ * ev ρ (plus q s)) (ev_plus (tl ρ) p r)
        ∙ ap (λ (x : A). ev (tl ρ) p + ev (tl ρ) r + hd z ρ * x) (ev_plus ρ q s)
        ∙ mix (hd z ρ) (ev (tl ρ) p) (ev (tl ρ) r) (ev ρ q) (ev ρ s)

    spread : (x a p q : A) → a * p + x * (a * q) ≡ a * (p + x * q)
    spread x a p q = simp (mul_add, mul_left_comm)

    ev_scale : (ρ : List A) (a : A) (p : Poly A) → ev ρ (scale a p) ≡ a * ev ρ p
    ev_scale ρ a (con b) = refl
    ev_scale ρ a (horn p q) =
        ev_mk ρ (scale a p) (scale a q)
        ∙ ap (λ (x : A). x + hd z ρ * ev ρ (scale a q)) (ev_scale (tl ρ) a p)
        ∙ ap (λ (x : A). a * ev (tl ρ) p + hd z ρ * x) (ev_scale ρ a q)
        ∙ spread (hd z ρ) a (ev (tl ρ) p) (ev ρ q)

    ev_low : (ρ : List A) (k : A) (f : Poly A → Poly A) → ((r : Poly A) → ev (tl ρ) (f r) ≡ k * ev (tl ρ) r) → (r : Poly A) → ev ρ (low f r) ≡ k * ev ρ r
    ev_low ρ k f h (con b) =
        ev_mk ρ (f (con b)) (con z)
        ∙ ap (λ (x : A). ev (tl ρ) (f (con b)) + x) (mul_zero (hd z ρ))
        ∙ add_zero (ev (tl ρ) (f (con b)))
        ∙ h (con b)
    ev_low ρ k f h (horn r s) =
        ev_mk ρ (f r) (low f s)
        ∙ ap (λ (x : A). x + hd z ρ * ev ρ (low f s)) (h r)
        ∙ ap (λ (x : A). k * ev (tl ρ) r + hd z ρ * x) (ev_low ρ k f h s)
        ∙ spread (hd z ρ) k (ev (tl ρ) r) (ev ρ s)

    join : (x p q r : A) → p * r + (z + x * (q * r)) ≡ (p + x * q) * r
    join x p q r = ap (λ (y : A). p * r + y) (zero_add (x * (q * r))) ∙ sym (mul_comm (p + x * q) r ∙ mul_add r p (x * q) ∙ ap (λ (y : A). y + r * (x * q)) (mul_comm r p) ∙ ap (λ (y : A). p * r + y) (mul_comm r (x * q) ∙ mul_assoc x q r))

    ev_times : (ρ : List A) (p q : Poly A) → ev ρ (times p q) ≡ ev ρ p * ev ρ q
    ev_times ρ (con a) r = ev_scale ρ a r
    ev_times ρ (horn p q) (con b) = ev_scale ρ b (horn p q) ∙ mul_comm b (ev ρ (horn p q))
    ev_times ρ (horn p q) (horn r s) =
        ev_plus ρ (low (times p) (horn r s)) (mk (con z) (times q (horn r s)))
        ∙ ap (λ (x : A). x + ev ρ (mk (con z) (times q (horn r s)))) (ev_low ρ (ev (tl ρ) p) (times p) (ev_times (tl ρ) p) (horn r s))
        ∙ ap (λ (x : A). ev (tl ρ) p * ev ρ (horn r s) + x) (ev_mk ρ (con z) (times q (horn r s)) ∙ ap (λ (x : A). z + hd z ρ * x) (ev_times ρ q (horn r s)))
        ∙ join (hd z ρ) (ev (tl ρ) p) (ev ρ q) (ev ρ (horn r s))

    ev_variable : (ρ : List A) (i : ℕ) → ev ρ (variable i) ≡ at z ρ i
    ev_variable [] zero = zero_add (z * o) ∙ mul_one z
    ev_variable [] (suc i) = ap (λ (x : A). x + z * z) (ev_variable [] i) ∙ ap (λ (x : A). z + x) (mul_zero z) ∙ add_zero z
    ev_variable (x ∷ ρ) zero = zero_add (x * o) ∙ mul_one x
    ev_variable (x ∷ ρ) (suc i) = ap (λ (y : A). y + x * z) (ev_variable ρ i) ∙ ap (λ (y : A). at z ρ i + y) (mul_zero x) ∙ add_zero (at z ρ i)

    pub ev_normal : (ρ : List A) (e : Ex A) → ev ρ (normal e) ≡ value ρ e
    ev_normal ρ (var i) = ev_variable ρ i
    ev_normal ρ (lit a) = refl
    ev_normal ρ (a ⊕ b) = ev_plus ρ (normal a) (normal b) ∙ ap (λ (x : A). x + ev ρ (normal b)) (ev_normal ρ a) ∙ ap (λ (x : A). value ρ a + x) (ev_normal ρ b)
    ev_normal ρ (a ⊗ b) = ev_times ρ (normal a) (normal b) ∙ ap (λ (x : A). x * ev ρ (normal b)) (ev_normal ρ a) ∙ ap (λ (x : A). value ρ a * x) (ev_normal ρ b)

    pub solve : (ρ : List A) (a b : Ex A) → normal a ≡ normal b → value ρ a ≡ value ρ b
    solve ρ a b h = sym (ev_normal ρ a) ∙ ap (λ (p : Poly A). ev ρ p) h ∙ ev_normal ρ b

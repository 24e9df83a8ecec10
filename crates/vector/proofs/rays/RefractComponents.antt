-- One component of a refracted vector, η a - g b: its two products and their difference, each rounded once. The ratio η is at most 4. Assumes nothing.
use mathlib.Core.Path.{subst}
use mathlib.Core.Bool.{Bool, false, not}
use Prim.Native.Nat.{ℕ, ◌+◌, ◌*◌, ◌≤◌}
use lib.Dec.{lit≤}
use lib.Pow.{pow_pos}
use lib.Ieee as Ieee
use lib.Ieee.{Float, binary32, unlike, mul}
use Rattle.laws.specs.Within.{Within}
use Rattle.laws.proofs.values.ValueLaws.{Value}
use Rattle.laws.proofs.operations.RoundedOperations.{Sized, mul_near, sub_near}
use Rattle.vector.proofs.values.SignedVectors.{D, E, sides, size_of_sum, plain_sign}
use Rattle.vector.proofs.values.CombinationLaws.{Component, component_of}
use Rattle.vector.proofs.rays.RefractNumbers.{bent_product, bent_first, bent_second, bent_third, r_room, r_le, wider}

module _ (η : Float) (H : ℕ) (hη : Value binary32 η false H) (lη : H ≤ 4 * D) where
  -- η times a number of about 1
  pub record Times (v : Float) (t : Bool) (n : ℕ) : Type 0 where
    pub size : ℕ
    pub has : Value binary32 (mul binary32 η v) t size
    pub near : Within (size * D) (H * n) (E * 4 * D)
    pub most : size ≤ 4 * D + 300 * E

  pub times : (v : Float) (t : Bool) (n : ℕ) → Value binary32 v t n → n ≤ D + 69 * E → Times v t n
  times v t n h l =
      let r : Sized binary32 (mul binary32 η v) (unlike false t) D (H * n) (E * 4) (D * 8) = mul_near binary32 η v false t H n 3 hη h (bent_product D E H n (lit≤ tt) lη l) (lit≤ tt) in
      record {
        size = r.size;
        has = subst (λ (u : Bool). Value binary32 (mul binary32 η v) u r.size) (plain_sign t) r.has;
        near = r.near;
        most = bent_first D E H n r.size (lit≤ tt) lη l r.near (pow_pos 149);
      }

  -- ---- one component
  pub record Bent (g : Float) (sg : Bool) (G : ℕ) (a b : Float) (sa sb : Bool) (A B : ℕ) : Type 0 where
    pub sign : Bool
    pub size : ℕ
    pub has : Value binary32 (Ieee.sub binary32 (mul binary32 η a) (mul binary32 g b)) sign size
    pub near : Component sign size sa (H * A) (unlike sg sb) (G * B) D (16 * (E * D))
    pub most : size ≤ 11 * D

  pub bent : (g : Float) (sg : Bool) (G : ℕ) → Value binary32 g sg G → G ≤ 5 * D + 2000 * E
      → (a b : Float) (sa sb : Bool) (A B : ℕ) → Value binary32 a sa A → Value binary32 b sb B → A ≤ D + 32 * E → B ≤ D + 32 * E → Bent g sg G a b sa sb A B
  bent g sg G hg lg a b sa sb A B ha hb la lb =
      let l = times a sa A ha (wider A D E la) in
      let m : Sized binary32 (mul binary32 g b) (unlike sg sb) D (G * B) (E * 4) (D * 8) = mul_near binary32 g b sg sb G B 3 hg hb (bent_second D E G B (lit≤ tt) lg lb) (lit≤ tt) in
      let lm = bent_third D E G B m.size (lit≤ tt) lg lb m.near (pow_pos 149) in
      let w = sides sa (not (unlike sg sb)) l.size m.size (D * 16) (r_room l.size m.size D E (lit≤ tt) l.most lm) in
      let r = sub_near binary32 4 (lit≤ tt) (mul binary32 η a) (mul binary32 g b) sa (unlike sg sb) l.size m.size l.has m.has w.0 w.1 in
      record {
        sign = r.sign;
        size = r.size;
        has = r.has;
        near = component_of r.sign sa (unlike sg sb) r.size l.size m.size (H * A) (G * B) D (E * 4) (E * 4) (E * 8) l.near
            m.near r.near;
        most = r_le r.size l.size m.size D E (lit≤ tt) l.most lm (size_of_sum r.sign sa (not (unlike sg sb)) r.size l.size m.size (E * 8) r.near);
      }

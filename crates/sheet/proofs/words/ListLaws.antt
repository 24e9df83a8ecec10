-- Words that are written one after another: what is then read of them, and of the other words. Assumes nothing.
use Prim.Native.Nat.{ℕ, zero, suc, ◌+◌, ◌-◌, ◌*◌, ◌≤◌, ◌<◌}
use Rattle.std.proofs.Common.{◌⊎◌, inl, inr}
use mathlib.Core.Path.{◌≡◌, refl, sym, ap, ◌∙◌}
use mathlib.Core.List.{List, [], ◌∷◌, ◌++◌, append_assoc}
use native.Mathlib.Omega.{arith}
use lib.ListN.{length, get_or, take, drop, set, length-set, length-drop}
use lib.Seq.{sets, sets-eq, drop_at, drop-drop, drop-cons, take-nil, length-take-le, take-add, drop-set-add, drop-set-lt, take-set-le, get_or-set_same, get_or-set_other}

-- ---- a word
get_d_sets_below : (l : List ℕ) (i j : ℕ) (vs : List ℕ) → j < i → get_or (sets l i vs) j 0 ≡ get_or l j 0
get_d_sets_below l i j [] h = refl
get_d_sets_below l i j (v ∷ vs) h = get_d_sets_below (set l i v) (suc i) j vs (omega arith) ∙ get_or-set_other l i j v 0 (λ e. omega (arith, e))

pub get_d_sets_above : (l : List ℕ) (i j : ℕ) (vs : List ℕ) → i + length vs ≤ j → get_or (sets l i vs) j 0 ≡ get_or l j 0
get_d_sets_above l i j [] h = refl
get_d_sets_above l i j (v ∷ vs) h = get_d_sets_above (set l i v) (suc i) j vs (omega arith) ∙ get_or-set_other l i j v 0 (λ e. omega (arith, e))

pub get_d_sets_in : (l : List ℕ) (i j : ℕ) (vs : List ℕ) → j < length vs → i + length vs ≤ length l → get_or (sets l i vs) (i + j) 0 ≡ get_or vs j 0
get_d_sets_in l i j [] h k = absurd (omega (arith, h))
get_d_sets_in l i zero (v ∷ vs) h k =
    let e : i + 0 ≡ i = omega arith in
    rw e (get_d_sets_below (set l i v) (suc i) i vs (omega arith) ∙ get_or-set_same l i v 0 (omega arith))
get_d_sets_in l i (suc j) (v ∷ vs) h k =
    let e : i + suc j ≡ suc i + j = omega arith in
    rw e (get_d_sets_in (set l i v) (suc i) j vs (omega arith) (omega (arith, length-set l i v)))

-- ---- the words from a place on
pub drop_sets_add : (n : ℕ) (l : List ℕ) (i : ℕ) (vs : List ℕ) → drop n (sets l (n + i) vs) ≡ sets (drop n l) i vs
drop_sets_add n l i [] = refl
drop_sets_add n l i (v ∷ vs) =
    let e : suc (n + i) ≡ n + suc i = omega arith in
    rw e (drop_sets_add n (set l (n + i) v) (suc i) vs) ∙ ap (λ (k : List ℕ). sets k (suc i) vs) (drop-set-add n l i v)

pub drop_sets_before : (n : ℕ) (l : List ℕ) (i : ℕ) (vs : List ℕ) → i + length vs ≤ n → drop n (sets l i vs) ≡ drop n l
drop_sets_before n l i [] h = refl
drop_sets_before n l i (v ∷ vs) h = drop_sets_before n (set l i v) (suc i) vs (omega arith) ∙ drop-set-lt n l i v (omega arith)

pub drop_sets_at : (l : List ℕ) (i : ℕ) (vs : List ℕ) → i + length vs ≤ length l → drop i (sets l i vs) ≡ vs ++ drop (i + length vs) l
drop_sets_at l i vs h =
    let rest = drop (i + length vs) l in
    ap (drop i) (sets-eq vs l i h ∙ append_assoc (take i l) vs rest) ∙ drop_at (take i l) (vs ++ rest) i (length-take-le i l (omega arith))

-- ---- the first words
pub drop_take : (m n : ℕ) (l : List ℕ) → drop m (take (m + n) l) ≡ take n (drop m l)
drop_take zero n l = let e : 0 + n ≡ n = omega arith in rw e refl
drop_take (suc m) n [] = let e : suc m + n ≡ suc (m + n) = omega arith in rw e (sym (take-nil n))
drop_take (suc m) n (x ∷ l) = let e : suc m + n ≡ suc (m + n) = omega arith in rw e (drop_take m n l)

pub take_sets_le : (n : ℕ) (l : List ℕ) (i : ℕ) (vs : List ℕ) → n ≤ i → take n (sets l i vs) ≡ take n l
take_sets_le n l i [] h = refl
take_sets_le n l i (v ∷ vs) h = take_sets_le n (set l i v) (suc i) vs (omega arith) ∙ take-set-le n l i v h

-- n words before those that are written
pub part_before : (n i : ℕ) (l : List ℕ) (j : ℕ) (vs : List ℕ) → i + n ≤ j → take n (drop i (sets l j vs)) ≡ take n (drop i l)
part_before n i l j vs h =
    let e : j ≡ i + (j - i) = omega arith in
    rw e (ap (take n) (drop_sets_add i l (j - i) vs) ∙ take_sets_le n (drop i l) (j - i) vs (omega arith))

-- ---- written in two parts
pub sets_append : (l : List ℕ) (i : ℕ) (us vs : List ℕ) → sets (sets l i us) (i + length us) vs ≡ sets l i (us ++ vs)
sets_append l i [] vs = let e : i + 0 ≡ i = omega arith in rw e refl
sets_append l i (u ∷ us) vs = let e : i + suc (length us) ≡ suc i + length us = omega arith in rw e (sets_append (set l i u) (suc i) us vs)

pub sets_parts : (l : List ℕ) (i n k : ℕ) (m : List ℕ) → n ≤ length m → sets (sets l i (take n m)) (i + n) (take k (drop n m)) ≡ sets l i (take (n + k) m)
sets_parts l i n k m h =
    let first = take n m in
    let second = take k (drop n m) in
    ap (λ (j : ℕ). sets (sets l i first) (i + j) second) (sym (length-take-le n m h)) ∙ sets_append l i first second ∙ ap (sets l i) (sym (take-add n k m))

-- ---- words copied, five at a time
pub five_taken :
    (w : List ℕ) (i : ℕ) → i + 5 ≤ length w
    → get_or w i 0 ∷ get_or w (i + 1) 0 ∷ get_or w (i + 2) 0 ∷ get_or w (i + 3) 0 ∷ get_or w (i + 4) 0 ∷ [] ≡ take 5 (drop i w)
five_taken w i h =
    let e : (k : ℕ) → i + suc k ≡ suc (i + k) = λ k. omega arith in
    let z : i + 0 ≡ i = omega arith in
    rw (
      e 3,
      e 2,
      e 1,
      e 0,
      z,
      drop-cons w i 0 (omega arith),
      drop-cons w (suc i) 0 (omega arith),
      drop-cons w (suc (suc i)) 0 (omega arith),
      drop-cons w (suc (suc (suc i))) 0 (omega arith),
      drop-cons w (suc (suc (suc (suc i)))) 0 (omega arith),
    ) refl

-- n rows of the words w are copied to v, and one more, which does not lie in the words of the first
pub five_more :
    (w v v' : List ℕ) (i j n m : ℕ)
    → i + m * 5 ≤ length w
    → n < m
    → (i + m * 5 ≤ j) ⊎ (j + m * 5 ≤ i)
    → v ≡ sets w j (take (n * 5) (drop i w))
    → v' ≡ sets v (j + n * 5) (take 5 (drop (i + n * 5) v))
    → v' ≡ sets w j (take ((n + 1) * 5) (drop i w))
five_more w v v' i j n m h lt apart e e' =
    let first = take (n * 5) (drop i w) in
    let many : length first ≡ n * 5 = length-take-le (n * 5) (drop i w) (omega (arith, length-drop i w)) in
    let kept : take 5 (drop (i + n * 5) (sets w j first)) ≡ take 5 (drop (i + n * 5) w) = elim apart [
      | inl l ↦ part_before 5 (i + n * 5) w j first (omega arith)
      | inr l ↦ ap (take 5) (drop_sets_before (i + n * 5) w j first (omega arith))
    ] in
    let six : n * 5 + 5 ≡ (n + 1) * 5 = omega arith in
    e'
    ∙ ap (λ (l : List ℕ). sets l (j + n * 5) (take 5 (drop (i + n * 5) l))) e
    ∙ ap (sets (sets w j first) (j + n * 5)) (kept ∙ ap (take 5) (sym (drop-drop (n * 5) i w)))
    ∙ sets_parts w j (n * 5) 5 (drop i w) (omega (arith, length-drop i w))
    ∙ ap (λ (k : ℕ). sets w j (take k (drop i w))) six

-- ---- others in place of the words from place i on
pub sets_written : (l : List ℕ) (i : ℕ) (vs : List ℕ) → i + length vs ≤ length l → take i l ++ (vs ++ drop (length vs) (drop i l)) ≡ sets l i vs
sets_written l i vs h = rw (sets-eq vs l i h, drop-drop (length vs) i l) (sym (append_assoc (take i l) vs (drop (i + length vs) l)))

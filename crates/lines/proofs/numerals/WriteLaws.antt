-- Writing a field: its columns are filled from the right. Assumes nothing.
use Rattle.std.proofs.Common.{◌≡◌, ℕ, zero, suc, ◌+◌, ◌-◌, ◌/◌, ◌%◌, ◌<◌, ◌≤◌, List, [], ◌∷◌, ◌++◌, length, drop, set, sym, refl, ◌∙◌, append_assoc, arith, length-append, length-set, drop_of_length-le, drop-cons, get_or-set_same, drop-set-lt}
use Rattle.lines.specs.Field.{lead, written, glyph}

drop_set_here : (l : List ℕ) (i a : ℕ) → i < length l → drop i (set l i a) ≡ a ∷ drop (suc i) l
drop_set_here l i a h =
    let h' : i < length (set l i a) = rw (length-set l i a) h in
    let s : i < suc i = omega arith in
    rw (drop-cons (set l i a) i 0 h', get_or-set_same l i a 0 h, drop-set-lt (suc i) l i a s)

-- the columns from i on hold the last digits of n, and rest is what is left of it
pub record Spelt (w n : ℕ) (f : List ℕ) (i rest : ℕ) : Type 0 where
  pub long : length f ≡ w
  pub within : i ≤ w
  pub text : written w n ≡ lead i rest ++ drop i f

pub spelt_one : (f : List ℕ) (n : ℕ) (w : ℕ) → length f ≡ w → 0 < w → Spelt w n (set f (w - 1) (48 + n % 10)) (w - 1) (n / 10)
unfolding written
spelt_one f n zero e h = absurd (omega arith)
spelt_one f n (suc w) e h =
    let p : suc w - 1 ≡ w = omega arith in
    let q : w < length f = omega arith in
    let z : length f ≤ suc w = omega arith in
    rw p
    (record {
      long = length-set f w (48 + n % 10) ∙ e;
      within = omega arith;
      text = rw (drop_set_here f w (48 + n % 10) q, drop_of_length-le f z);
    })

pub spelt_more : (w n : ℕ) (f : List ℕ) (i rest : ℕ) → Spelt w n f i rest → 0 < i → Spelt w n (set f (i - 1) (glyph rest)) (i - 1) (rest / 10)
unfolding lead
spelt_more w n f zero rest h lt = absurd (omega arith)
spelt_more w n f (suc j) rest h lt =
    let p : suc j - 1 ≡ j = omega arith in
    let q : j < length f = omega (arith, h.long, h.within) in
    rw p
    (record {
      long = length-set f j (glyph rest) ∙ h.long;
      within = omega (arith, h.within);
      text = h.text ∙ rw (drop_set_here f j (glyph rest) q) (append_assoc (lead j (rest / 10)) (glyph rest ∷ []) (drop (suc j) f));
    })

pub spelt_none : (f : List ℕ) (n : ℕ) → length f ≡ 0 → f ≡ written (length f) n
unfolding written
spelt_none [] n e = refl
spelt_none (b ∷ f) n e = absurd (omega arith)

pub spelt_all : (w n : ℕ) (f : List ℕ) (i rest : ℕ) → Spelt w n f i rest → i ≤ 0 → f ≡ written w n
unfolding lead
spelt_all w n f zero rest h e = sym h.text
spelt_all w n f (suc i) rest h e = absurd (omega arith)

length_lead : (w n : ℕ) → length (lead w n) ≡ w
unfolding lead
length_lead zero n = refl
length_lead (suc w) n = omega (arith, length-append (lead w (n / 10)) (glyph n ∷ []), length_lead w (n / 10))

pub length_written : (w n : ℕ) → length (written w n) ≡ w
unfolding written
length_written zero n = refl
length_written (suc w) n = omega (arith, length-append (lead w (n / 10)) ((48 + n % 10) ∷ []), length_lead w (n / 10))

-- Fields side by side: the part of one, and fields written from left to right are the line's text. Assumes nothing.
use Rattle.std.proofs.Common.{◌≡◌, ℕ, ◌+◌, ◌-◌, ◌≤◌, List, [], ◌∷◌, ◌++◌, length, take, drop, sym, refl, ◌∙◌, append_assoc, append-nil, arith, length-append, length-drop, length-take-le, drop-drop, take_at}
use lib.Seq.{drop-append-add}
use Rattle.lines.specs.Field.{digits, number, written}
use Rattle.lines.specs.Columns.{field_at, text}
use Rattle.lines.specs.ColumnParts.{put_field}
use Rattle.lines.proofs.numerals.WriteLaws.{length_written}

-- ---- reading

-- the part from `at` to `at + w` is the field's
pub read_part : (at w : ℕ) (l : List ℕ) → number (digits (take (at + w - at) (drop at l))) ≡ field_at at w l
unfolding field_at
read_part at w l = let k : at + w - at ≡ w = omega arith in rw k refl

-- ---- writing

-- a part that was lent comes back with the field in it
pub put_part : (xs ys : List ℕ) (at w n : ℕ) → at + w ≤ length xs → ys ≡ written (length (take (at + w - at) (drop at xs))) n
    → take at xs ++ (ys ++ drop (at + w - at) (drop at xs)) ≡ put_field at w n xs
unfolding put_field
put_part xs ys at w n h e =
    let k : at + w - at ≡ w = omega arith in
    let l : length (take w (drop at xs)) ≡ w = length-take-le w (drop at xs) (omega (arith, length-drop at xs)) in
    rw (e, k, l, drop-drop w at xs)

-- the columns of fields of these widths
abbrev pub columns : List ℕ → ℕ
columns [] = 0
columns (w ∷ ws) = w + columns ws

pub length_text : (ws ns : List ℕ) → length ns ≡ length ws → length (text ws ns) ≡ columns ws
unfolding text
length_text [] ns e = refl
length_text (w ∷ ws) [] e = absurd (omega arith)
length_text (w ∷ ws) (n ∷ ns) e =
    length-append (written w n) (text ws ns) ∙ rw (length_written w n, length_text ws ns (omega arith))

-- numbers written one by one into fields of these widths, the first at column `at`
abbrev pub put_fields : ℕ → List ℕ → List ℕ → List ℕ → List ℕ
put_fields at [] ns out = out
put_fields at (w ∷ ws) [] out = out
put_fields at (w ∷ ws) (n ∷ ns) out = put_fields (at + w) ws ns (put_field at w n out)

put_after : (p old : List ℕ) (at w n : ℕ) → length p ≡ at → put_field at w n (p ++ drop at old) ≡ (p ++ written w n) ++ drop (at + w) old
unfolding put_field
put_after p old at w n e =
    rw (take_at p (drop at old) at e, ← e, drop-append-add p (drop (length p) old) w, drop-drop w (length p) old)
    (sym (append_assoc p (written w n) (drop (length p + w) old)))

pub put_fields_lem : (p old : List ℕ) (at : ℕ) (ws ns : List ℕ) → length p ≡ at → length ns ≡ length ws
    → put_fields at ws ns (p ++ drop at old) ≡ (p ++ text ws ns) ++ drop (at + columns ws) old
unfolding text
put_fields_lem p old at [] ns e q = let z : at + 0 ≡ at = omega arith in rw (z, append-nil p) refl
put_fields_lem p old at (w ∷ ws) [] e q = absurd (omega arith)
put_fields_lem p old at (w ∷ ws) (n ∷ ns) e q =
    let l : length (p ++ written w n) ≡ at + w = omega (arith, length-append p (written w n), length_written w n) in
    let s : at + w + columns ws ≡ at + (w + columns ws) = omega arith in
    rw (put_after p old at w n e, put_fields_lem (p ++ written w n) old (at + w) ws ns l (omega arith), s, append_assoc p (written w n) (text ws ns)) refl

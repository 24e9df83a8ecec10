-- Lines of fields: no line feed inside, and writing and reading undo each other. Assumes nothing.
use Rattle.std.proofs.Common.{◌≡◌, ℕ, zero, suc, ◌+◌, ◌≤◌, Bool, true, false, cond, eqb, List, [], ◌∷◌, ◌++◌, length, take, drop, replicate, sym, refl, append_assoc, arith, length-append, length-drop, take-append-drop, drop_of_length-le, length-take-le, drop-drop, take_at, drop_at, eqb-true}
use Rattle.std.specs.Prelude.{Option, None, Some}
use Rattle.lines.specs.Field.{digits, is_digit, decimal, number, written}
use Rattle.lines.specs.Columns.{field_at, both, numbers_at, text}
use Rattle.lines.specs.CommandLine.{widths, numbers}
use Rattle.lines.specs.LineMeaning.{NoLineFeed, WellFormedWhole, AllRoom, LineReadBack, LineWrittenBack, AnswerLength}
use Rattle.lines.proofs.numerals.WriteLaws.{length_written}
use Rattle.lines.proofs.numerals.FieldMeaningLaws.{digit_range, both_true, read_field}
use Rattle.lines.proofs.numerals.RoundTripLaws.{read_back, written_back}
use Rattle.lines.proofs.columns.ColumnLaws.{columns, length_text}
use Rattle.lines.proofs.columns.AnswerLineLaws.{length_answer}

-- ---- what is known of a line that gives numbers

-- the first number, and those after it
record Given (r : Option ℕ) (o : Option (List ℕ)) (ns : List ℕ) : Type 0 where
  first : ℕ
  rest : List ℕ
  is : ns ≡ first ∷ rest
  read : r ≡ Some first
  others : o ≡ Some rest

given : (r : Option ℕ) (o : Option (List ℕ)) (ns : List ℕ) → both r o ≡ Some ns → Given r o ns
unfolding both
given (Some n) (Some ms) ns e = record { first = n; rest = ms; is = cc; read = refl; others = refl }
given (Some n) None ns e = let y : ◌≡◌ {A = ℕ} 0 1 = cc in absurd (omega arith)
given None o ns e = let y : ◌≡◌ {A = ℕ} 0 1 = cc in absurd (omega arith)

-- 45 bytes, and seven fields
whole : (l ns : List ℕ) → numbers l ≡ Some ns → (length l ≡ 45) × (numbers_at 0 widths l ≡ Some ns)
unfolding numbers
whole l ns e = go (eqb (length l) 45) refl e
  where
    go : (x : Bool) → eqb (length l) 45 ≡ x → cond x (numbers_at 0 widths l) None ≡ Some ns → (length l ≡ 45) × (numbers_at 0 widths l ≡ Some ns)
    go true p e = (eqb-true _ _ p, e)
    go false p e = let y : ◌≡◌ {A = ℕ} 0 1 = cc in absurd (omega arith)

-- ---- no line feed

decimal_free : (l : List ℕ) → decimal l ≡ true → NoLineFeed l
unfolding decimal NoLineFeed
decimal_free [] h = tt
decimal_free (b ∷ l) h =
    let p = both_true (is_digit b) (decimal l) h in
    (λ e. omega (arith, (digit_range b p.0).0, e), decimal_free l p.1)

blanks_free : (k : ℕ) (l : List ℕ) → NoLineFeed l → NoLineFeed (replicate k 32 ++ l)
unfolding NoLineFeed
blanks_free zero l h = h
blanks_free (suc k) l h = (λ e. omega (arith, e), blanks_free k l h)

field_free : (l : List ℕ) (n : ℕ) → number (digits l) ≡ Some n → NoLineFeed l
field_free l n e =
    let h = read_field l n e in
    rw h.text (blanks_free h.blanks h.figures (decimal_free h.figures h.numeral.decimals))

free_append : (l m : List ℕ) → NoLineFeed l → NoLineFeed m → NoLineFeed (l ++ m)
unfolding NoLineFeed
free_append [] m p q = q
free_append (b ∷ l) m p q = (p.0, free_append l m p.1 q)

fields_free : (at : ℕ) (ws l ns : List ℕ) → numbers_at at ws l ≡ Some ns → length l ≤ at + columns ws → NoLineFeed (drop at l)
unfolding numbers_at field_at NoLineFeed
fields_free at [] l ns e h = let z : length l ≤ at = omega arith in rw (drop_of_length-le l z) tt
fields_free at (w ∷ ws) l ns e h =
    let g = given (field_at at w l) (numbers_at (at + w) ws l) ns e in
    let rest : NoLineFeed (drop (at + w) l) = fields_free (at + w) ws l g.rest g.others (omega arith) in
    rw (← take-append-drop w (drop at l), drop-drop w at l) (free_append (take w (drop at l)) (drop (at + w) l) (field_free _ g.first g.read) rest)

pub well_formed_whole : WellFormedWhole
well_formed_whole l ns e = let h = whole l ns e in fields_free 0 widths l ns h.1 (omega (arith, h.0))

-- ---- round trips

room_length : (ws ns : List ℕ) → AllRoom ws ns → length ns ≡ length ws
unfolding AllRoom
room_length [] [] h = refl
room_length (w ∷ ws) (n ∷ ns) h = omega (arith, room_length ws ns h.1)
room_length [] (n ∷ ns) h = absurd h
room_length (w ∷ ws) [] h = absurd h

-- the fields behind p
fields_read : (p : List ℕ) (at : ℕ) (ws ns : List ℕ) → length p ≡ at → AllRoom ws ns → numbers_at at ws (p ++ text ws ns) ≡ Some ns
unfolding numbers_at field_at both text AllRoom
fields_read p at [] [] e h = refl
fields_read p at (w ∷ ws) (n ∷ ns) e h =
    let l : length (p ++ written w n) ≡ at + w = omega (arith, length-append p (written w n), length_written w n) in
    let rest : numbers_at (at + w) ws (p ++ (written w n ++ text ws ns)) ≡ Some ns =
    rw (← append_assoc p (written w n) (text ws ns)) (fields_read (p ++ written w n) (at + w) ws ns l h.1) in
    rw (rest, drop_at p (written w n ++ text ws ns) at e, take_at (written w n) (text ws ns) w (length_written w n), read_back w n h.0) refl
fields_read p at [] (n ∷ ns) e h = absurd h
fields_read p at (w ∷ ws) [] e h = absurd h

pub line_read_back : LineReadBack
unfolding numbers
line_read_back ns h = rw (length_text widths ns (room_length widths ns h)) (fields_read [] 0 widths ns refl h)

fields_written : (at : ℕ) (ws l ns : List ℕ) → numbers_at at ws l ≡ Some ns → length l ≡ at + columns ws → text ws ns ≡ drop at l
unfolding numbers_at field_at text
fields_written at [] l ns e h = let z : length l ≤ at = omega arith in sym (drop_of_length-le l z)
fields_written at (w ∷ ws) l ns e h =
    let g = given (field_at at w l) (numbers_at (at + w) ws l) ns e in
    let k : length (take w (drop at l)) ≡ w = length-take-le w (drop at l) (omega (arith, length-drop at l)) in
    let first : written w g.first ≡ take w (drop at l) = (rw k at (written_back (take w (drop at l)) g.first g.read)) in
    let rest : text ws g.rest ≡ drop (at + w) l = fields_written (at + w) ws l g.rest g.others (omega arith) in
    rw (g.is, first, rest, ← drop-drop w at l) (take-append-drop w (drop at l))

pub line_written_back : LineWrittenBack
line_written_back l ns e = let h = whole l ns e in fields_written 0 widths l ns h.1 h.0

-- ---- the length of an answer line

pub answer_length_lem : AnswerLength
answer_length_lem = length_answer

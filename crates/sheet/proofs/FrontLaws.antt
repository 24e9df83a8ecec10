-- A sheet in the first of some words: what lies behind it is not read, and stays as it is. Assumes nothing.
use Prim.Native.Nat.{ℕ, suc, ◌+◌, ◌-◌, ◌*◌, ◌%◌, ◌≤◌, ◌<◌}
use mathlib.Core.Path.{◌≡◌, refl, sym, ap, ◌∙◌}
use mathlib.Core.List.{List, [], ◌∷◌, ◌++◌}
use native.Mathlib.Omega.{arith}
use lib.ListN.{length, get_or, take, drop, set, length-set, length-take, length-drop, length-append, get_or-append, take-append-drop}
use lib.Seq.{sets, length-sets, take-append-le, drop-append-le, length-take-le}
use Rattle.std.proofs.lemmas.List.{set-append_left}
use Rattle.commands.specs.declared.command.Command.{Command}
use Rattle.std.specs.Prelude.{Result}
use Rattle.commands.specs.declared.codes.Refusal.{Refusal}
use Rattle.commands.specs.declared.command.Answer.{Answer}
use Rattle.commands.specs.Codes.{row_count, history_depth}
use Rattle.commands.specs.Rows.{State, ModelRow}
use Rattle.commands.specs.Answers.{answer_of}
use Rattle.commands.specs.Effects.{ModelEffect, Puts, PutsTwo, Restores, Tells}
use Rattle.commands.specs.Model.{Stepped, stepped, applied, effect_on}
use Rattle.commands.proofs.CommandLaws.{InRange}
use Rattle.sheet.specs.Rows.{row_width, rows_from, row_words, put_row}
use Rattle.sheet.specs.History.{entry_width, next_at, next_of, back, place_at, ring_of, remembered, rows_in, target_in, put_back, taken_back}
use Rattle.sheet.specs.Words.{state_words, model_of, words_after, lent_step}
use Rattle.sheet.proofs.words.RowLaws.{rows_part}
use Rattle.sheet.proofs.words.PutLaws.{length_put}
use Rattle.sheet.proofs.ring.EntryLaws.{entries_kept}
use Rattle.sheet.proofs.ring.PutBackLaws.{rows_few, back_room}
use Rattle.sheet.proofs.ring.RememberLaws.{length_remembered}
use Rattle.sheet.proofs.LentLaws.{by_effect, range}

-- ---- lists
sets_front : (l b : List ℕ) (i : ℕ) (vs : List ℕ) → i + length vs ≤ length l → sets (l ++ b) i vs ≡ sets l i vs ++ b
sets_front l b i [] h = refl
sets_front l b i (v ∷ vs) h =
    let lt : i < length l = omega arith in
    ap (λ (k : List ℕ). sets k (suc i) vs) (set-append_left l b i v lt) ∙ sets_front (set l i v) b (suc i) vs (omega (arith, length-set l i v))

part_front : (n i : ℕ) (l b : List ℕ) → i + n ≤ length l → take n (drop i (l ++ b)) ≡ take n (drop i l)
part_front n i l b h = ap (take n) (drop-append-le i l b (omega arith)) ∙ take-append-le n (drop i l) b (omega (arith, length-drop i l))

-- ---- the sheet
module _ (w b : List ℕ) (long : length w ≡ state_words) where
  word : (i : ℕ) → i < state_words → get_or (w ++ b) i 0 ≡ get_or w i 0
  word i h = get_or-append w b 0 i (omega arith)

  next : next_of (w ++ b) ≡ next_of w
  next = ap (λ (k : ℕ). k % history_depth) (word next_at (omega arith))

  rows_front : rows_from row_count (w ++ b) ≡ rows_from row_count w
  rows_front =
      sym (rows_part row_count (w ++ b))
      ∙ ap (rows_from row_count) (take-append-le (row_count * row_width) w b (omega arith))
      ∙ rows_part row_count w

  ring_front : ring_of (w ++ b) ≡ ring_of w
  unfolding ring_of
  ring_front =
      rw (
        next,
        entries_kept w (w ++ b) history_depth (next_of w) (omega arith) (omega arith) (λ d l.
            part_front entry_width (place_at ((next_of w + (63 - d)) % history_depth)) w b (omega arith)),
      )

  model_front : model_of (w ++ b) ≡ model_of w
  unfolding model_of
  model_front = rw (rows_front, ring_front) refl

  -- ---- what is written
  put_front : (t : ℕ) (r : ModelRow) → t < row_count → put_row (w ++ b) t r ≡ put_row w t r ++ b
  unfolding put_row row_words
  put_front t r h = sets_front w b (t * row_width) (row_words r) (omega arith)

  remembered_front : (t n : ℕ) → n ≤ 2 → t + n ≤ row_count → remembered (w ++ b) t n ≡ remembered w t n ++ b
  unfolding remembered
  remembered_front t n k h =
      let at = place_at (next_of w) in
      let rows = take (n * row_width) (drop (t * row_width) w) in
      rw (
        next,
        part_front (n * row_width) (t * row_width) w b (omega arith),
        sets_front w b at (t ∷ n ∷ rows) (omega (arith, length-take (n * row_width) (drop (t * row_width) w))),
        sets_front (sets w at (t ∷ n ∷ rows)) b next_at (((next_of w + 1) % history_depth) ∷ []) (omega (arith, length-sets w at (t ∷ n ∷ rows))),
      )

  put_back_front : (e : ℕ) → e + entry_width ≤ state_words → put_back (w ++ b) e ≡ put_back w e ++ b
  unfolding put_back
  put_back_front e h =
      rw (
        word (e + 1) (omega arith),
        word e (omega arith),
        part_front (rows_in w e * row_width) (e + 2) w b (omega (arith, rows_few w e)),
        sets_front w b (target_in w e * row_width) (take (rows_in w e * row_width) (drop (e + 2) w)) (omega (arith, back_room w e)),
      )

  length_put_back : (e : ℕ) → length (put_back w e) ≡ state_words
  unfolding put_back
  length_put_back e = length-sets w (target_in w e * row_width) (take (rows_in w e * row_width) (drop (e + 2) w)) ∙ long

  taken_back_front : taken_back (w ++ b) ≡ taken_back w ++ b
  unfolding taken_back
  taken_back_front =
      let latest = back (next_of w) in
      let at = place_at latest in
      let put = put_back w at in
      rw (
        next,
        put_back_front at (omega arith),
        sets_front put b (at + 1) (0 ∷ []) (omega (arith, length_put_back at)),
        sets_front (sets put (at + 1) (0 ∷ [])) b next_at (latest ∷ []) (omega (arith, length_put_back at, length-sets put (at + 1) (0 ∷ []))),
      )

module _ (w b : List ℕ) (long : length w ≡ state_words) where
  words_front : (t : ℕ) (e : ModelEffect) → InRange t e → words_after (w ++ b) t e ≡ words_after w t e ++ b
  unfolding words_after
  words_front t (Puts r) h =
      rw (remembered_front w b long t 1 (omega arith) (omega arith)) (put_front (remembered w t 1) b (length_remembered w t 1 ∙ long) t r h)
  words_front t (PutsTwo p q) h =
      let w₁ = remembered w t 2 in
      rw (
        remembered_front w b long t 2 (omega arith) (omega arith),
        put_front w₁ b (length_remembered w t 2 ∙ long) t p (omega arith),
      ) (put_front (put_row w₁ t p) b (length_put w₁ t p ∙ length_remembered w t 2 ∙ long) (t + 1) q h)
  words_front t Restores h = taken_back_front w b long
  words_front t (Tells x) h = refl

  -- ---- a command
  step_front : (c : Command) → lent_step (w ++ b) c ≡ stepped ((lent_step w c).state ++ b) (lent_step w c).answer
  step_front c =
      let all : state_words ≤ length (w ++ b) = omega (arith, length-append w b) in
      let enough : state_words ≤ length w = omega arith in
      let e = effect_on (model_of w) c in
      let done : Stepped (List ℕ) → Stepped (List ℕ) = λ o. stepped (o.state ++ b) o.answer in
      by_effect (w ++ b) c all
      ∙ ap (λ (s : State). stepped (words_after (w ++ b) c.t (effect_on s c)) (applied s c.t (effect_on s c)).answer) (model_front w b long)
      ∙ ap (λ (k : List ℕ). stepped k (applied (model_of w) c.t e).answer) (words_front c.t e (range w c enough))
      ∙ ap done (sym (by_effect w c enough))

-- the words of a sheet, and those behind it
pub stepped_front :
    (w front left : List ℕ) (c : Command) (x : Result Answer Refusal)
    → state_words ≤ length w
    → front ≡ take state_words w
    → stepped left (answer_of x) ≡ lent_step front c
    → stepped (left ++ drop state_words w) (answer_of x) ≡ lent_step w c
stepped_front w front left c x l f e =
    let words : length front ≡ state_words = ap length f ∙ length-take-le state_words w l in
    ap (λ (o : Stepped (List ℕ)). stepped (o.state ++ drop state_words w) o.answer) e
    ∙ sym (step_front front (drop state_words w) words c)
    ∙ ap (λ (k : List ℕ). lent_step k c) (ap (λ (k : List ℕ). k ++ drop state_words w) f ∙ take-append-drop state_words w)

-- What `step` and `step_at` leave in lent words, from the effect that the program works out on the rows it has read modulo 64. Assumes nothing.
use Prim.Native.Nat.{ℕ, ◌+◌, ◌%◌, ◌≤◌, ◌<◌}
use mathlib.Core.Path.{◌≡◌, refl, sym, ap, ◌∙◌, subst}
use mathlib.Core.Bool.{Bool, true, false, cond}
use mathlib.Core.List.{List, ◌++◌}
use native.Mathlib.Omega.{arith}
use borrow.Author.Tests.{lt-ltb, le-ltb}
use lib.ListN.{length, take, drop}
use lib.Ieee.{Float}
use lib.Seq.{sets}
use Rattle.std.specs.Prelude.{Result, Ok, Err}
use Rattle.vector.specs.Vectors.{zer}
use Rattle.vector.specs.declared.vec3.Vec3.{Vec3}
use Rattle.commands.specs.declared.codes.Kind.{Kind}
use Rattle.commands.specs.declared.codes.Refusal.{Refusal}
use Rattle.commands.specs.KindNumbers.{kind_number}
use Rattle.commands.specs.declared.row.Row.{Row}
use Rattle.commands.specs.declared.row.StoredRow.{StoredRow}
use Rattle.commands.specs.declared.command.Command.{Command}
use Rattle.commands.specs.declared.command.Answer.{Answer}
use Rattle.commands.specs.declared.command.Answer.TheVariants.{Shown}
use Rattle.commands.specs.declared.effects.Effect.{Effect}
use Rattle.commands.specs.declared.effects.Effect.TheVariants.{Tell, Put, PutTwo, Restore}
use Rattle.commands.specs.Codes.{row_count, direction_kind, lent_too_short, history_empty}
use Rattle.commands.specs.Rows.{ModelRow, row, row_of, stored_row, row_at}
use Rattle.commands.specs.Fields.{read_of}
use Rattle.commands.specs.Answers.{refused, answer_of, numbers_of}
use Rattle.commands.specs.Effects.{ModelEffect, Restores, Tells, command_effect, effect_by}
use Rattle.commands.specs.Model.{Stepped, stepped, applied, restored, is_some, read_at, effect_on}
use Rattle.sheet.specs.Rows.{put_row}
use Rattle.sheet.specs.History.{remembered, taken_back}
use Rattle.sheet.specs.Words.{state_words, model_of, words_after, undone, lent_step}
use Rattle.sheet.specs.Run.{stepped_at, lent_step_at}
use Rattle.commands.proofs.CommandLaws.{InRange, target_in_range, effect_rows}
use Rattle.commands.proofs.table.UnreadLaws.{Source, A, B, U, number_in, row_in}
use Rattle.commands.proofs.history.EmptyLaws.{unless_empty, by_history}
use Rattle.sheet.proofs.words.ListLaws.{sets_written}
use Rattle.sheet.proofs.LentLaws.{lent_by}

-- the words are enough, and the program's effect is the model's, but for a 33 that finds nothing
pub record Found (w : List ℕ) (c : Command) (d : Result Effect Refusal) : Type 0 where
  pub long : state_words ≤ length w
  pub same : effect_on (model_of w) c ≡ unless_empty (is_some (model_of w).history) (effect_by d)

below : (rows : List ModelRow) (n : ℕ) {i : ℕ} {a : ModelRow} → i ≡ n % 64 → a ≡ row_at rows i → n < row_count → a ≡ row_at rows n
below rows n {i} read e h = let k : i ≡ n = omega (arith, read) in e ∙ ap (row_at rows) k

pub found :
    (w : List ℕ) (c : Command) (i j k : ℕ) (a b : Row) (r : StoredRow) (d : Result Effect Refusal)
    → state_words ≤ length w
    → i ≡ c.a % 64
    → j ≡ c.b % 64
    → k ≡ c.u % 64
    → row_of a ≡ row_at (model_of w).rows i
    → row_of b ≡ row_at (model_of w).rows j
    → stored_row r ≡ row_at (model_of w).rows k
    → effect_by d ≡ command_effect c (read_of a b r) true
    → Found w c d
found w c i j k a b r d l ei ej ek ea eb er e =
    let some = is_some (model_of w).history in
    let read = effect_rows c (read_of a b r) (read_at (model_of w) c) true same in
    record { long = l; same = by_history c (read_at (model_of w) c) some ∙ ap (unless_empty some) (sym (e ∙ read)) }
  where
    rows : List ModelRow
    rows = (model_of w).rows

    same : (i : Source) → number_in i c < row_count → row_in i (read_of a b r) ≡ row_in i (read_at (model_of w) c)
    same A = below rows c.a ei ea
    same B = below rows c.b ej eb
    same U = below rows c.u ek er

module _ {w : List ℕ} {c : Command} {d : Result Effect Refusal} (f : Found w c d) where
  abbrev some : Bool
  some = is_some (model_of w).history

  -- as the case of the enum that it is
  by : (e : Result Effect Refusal) → d ≡ e → unless_empty some (effect_by e) ≡ effect_on (model_of w) c
  by e q = sym (f.same ∙ ap (λ (k : Result Effect Refusal). unless_empty some (effect_by k)) q)

  -- what holds of the model's effect
  holds : (P : ModelEffect → Type 0) → P (effect_on (model_of w) c) → (e : Result Effect Refusal) → d ≡ e → P (unless_empty some (effect_by e))
  holds P h e q = subst P (sym (by e q)) h

  pub put_range : (kind : Kind) (v : Vec3) (o : Float) → d ≡ Ok (Put kind v o) → c.t < row_count
  unfolding effect_by
  put_range kind v o q = holds (InRange c.t) (target_in_range c _ _) (Ok (Put kind v o)) q

  pub two_range : (u v : Vec3) → d ≡ Ok (PutTwo u v) → c.t + 1 < row_count
  unfolding effect_by
  two_range u v q = holds (InRange c.t) (target_in_range c _ _) (Ok (PutTwo u v)) q

  pub refuses : (k : Refusal) → d ≡ Err k → stepped w (answer_of (Err k)) ≡ lent_step w c
  unfolding applied effect_by words_after answer_of
  refuses k q = lent_by w c (effect_by (Err k)) f.long (by (Err k) q)

  pub tells : (x : Answer) → d ≡ Ok (Tell x) → stepped w (answer_of (Ok x)) ≡ lent_step w c
  unfolding applied effect_by words_after
  tells x q = lent_by w c (effect_by (Ok (Tell x))) f.long (by (Ok (Tell x)) q)

  pub puts :
      (w₁ w₂ : List ℕ) (n : ℕ) (kind : Kind) (v : Vec3) (o : Float)
      → d ≡ Ok (Put kind v o)
      → n ≡ kind_number kind
      → w₁ ≡ remembered w c.t 1
      → w₂ ≡ put_row w₁ c.t (row n v o)
      → stepped w₂ (answer_of (Ok (Shown c.t n v))) ≡ lent_step w c
  unfolding applied effect_by words_after answer_of
  puts w₁ w₂ n kind v o q k e g =
      rw (g, e, k) (lent_by w c (effect_by (Ok (Put kind v o))) f.long (by (Ok (Put kind v o)) q))

  pub puts_two :
      (w₁ w₂ w₃ : List ℕ) (n : ℕ) (u v : Vec3)
      → d ≡ Ok (PutTwo u v)
      → n ≡ direction_kind
      → w₁ ≡ remembered w c.t 2
      → w₂ ≡ put_row w₁ c.t (row n u zer)
      → w₃ ≡ put_row w₂ (c.t + 1) (row n v zer)
      → stepped w₃ (answer_of (Ok (Shown c.t n u))) ≡ lent_step w c
  unfolding applied effect_by words_after answer_of
  puts_two w₁ w₂ w₃ n u v q k e g h =
      rw (h, g, e, k) (lent_by w c (effect_by (Ok (PutTwo u v))) f.long (by (Ok (PutTwo u v)) q))

  pub restores :
      (w' : List ℕ) (x : Result Answer Refusal) → d ≡ Ok Restore → stepped w' (answer_of x) ≡ undone w → stepped w' (answer_of x) ≡ lent_step w c
  unfolding effect_by undone words_after applied
  restores w' x q e = e ∙ undone_by some ∙ lent_by w c (unless_empty some (effect_by (Ok Restore))) f.long (by (Ok Restore) q)
    where
      nothing : ModelEffect
      nothing = Tells (refused history_empty)

      undone_by :
          (b : Bool)
          → cond b (stepped (taken_back w) (restored (model_of w) (model_of w).history).answer) (stepped w (refused history_empty))
          ≡ stepped (words_after w c.t (cond b Restores nothing)) (applied (model_of w) c.t (cond b Restores nothing)).answer
      undone_by true = refl
      undone_by false = refl

-- 33, by whether anything is remembered
module _ (w : List ℕ) where
  pub undone_some : is_some (model_of w).history ≡ true → stepped (taken_back w) (restored (model_of w) (model_of w).history).answer ≡ undone w
  unfolding undone
  undone_some h = simp h

  pub undone_none : is_some (model_of w).history ≡ false → stepped w (refused history_empty) ≡ undone w
  unfolding undone
  undone_none h = simp h

-- ---- in numbers
module _ (w : List ℕ) (c : Command) (out : List ℕ) (at : ℕ) where
  pub at_short : length out < at + 6 → stepped_at w out lent_too_short ≡ lent_step_at w c out at
  unfolding lent_step_at
  at_short h = simp (lt-ltb (length out) (at + 6) h)

  pub at_room :
      at + 6 ≤ length out
      → stepped_at (lent_step w c).state (sets out at (numbers_of (lent_step w c).answer)) (lent_step w c).answer.refusal ≡ lent_step_at w c out at
  unfolding lent_step_at
  at_room h = simp (le-ltb (length out) (at + 6) h)

pub done_at :
    (w w' out front rest six : List ℕ) (at : ℕ) (c k : Command) (x : Result Answer Refusal) (n : ℕ)
    → at + 6 ≤ length out
    → front ≡ take at out
    → rest ≡ drop at out
    → c ≡ k
    → stepped w' (answer_of x) ≡ lent_step w c
    → six ≡ numbers_of (answer_of x)
    → n ≡ (answer_of x).refusal
    → stepped_at w' (front ++ (six ++ drop 6 rest)) n ≡ lent_step_at w k out at
done_at w w' out front rest six at c k x n room ef er ec es e en =
    let written : front ++ (six ++ drop 6 rest) ≡ sets out at (numbers_of (answer_of x)) = rw (ef, er, e) (sets_written out at (numbers_of (answer_of x)) room) in
    ap (λ (l : List ℕ). stepped_at w' l n) written
    ∙ ap (stepped_at w' (sets out at (numbers_of (answer_of x)))) en
    ∙ ap (λ (o : Stepped (List ℕ)). stepped_at o.state (sets out at (numbers_of o.answer)) o.answer.refusal) es
    ∙ at_room w c out at room
    ∙ ap (λ (d : Command). lent_step_at w d out at) ec

-- Commands on lent words run as the model's on the sheet that lies in them: one command, and a list. Assumes nothing.
use Prim.Native.Nat.{ℕ, ◌+◌, ◌≤◌, ◌<◌}
use mathlib.Core.Path.{◌≡◌, refl, sym, ap, ◌∙◌, subst}
use mathlib.Core.Bool.{Bool, cond}
use mathlib.Core.List.{List}
use native.Mathlib.Omega.{arith}
use borrow.Author.Tests.{lt-ltb, le-ltb}
use lib.ListN.{length, drop}
use Rattle.commands.specs.declared.command.Command.{Command}
use Rattle.commands.specs.Codes.{lent_too_short}
use Rattle.commands.specs.Rows.{State}
use Rattle.commands.specs.Fields.{Read}
use Rattle.commands.specs.Answers.{refused}
use Rattle.commands.specs.Effects.{ModelEffect, Puts, PutsTwo, Restores, Tells}
use Rattle.commands.specs.Model.{Stepped, stepped, applied, is_some, read_at, effect_on, step_of, Ran, run_from}
use Rattle.commands.specs.Claim.{Claim}
use Rattle.commands.proofs.ClaimLaws.{model_claim}
use Rattle.sheet.specs.Rows.{put_row}
use Rattle.sheet.specs.History.{remembered}
use Rattle.sheet.specs.Words.{state_words, model_of, words_after, lent_step, lent_run}
use Rattle.commands.proofs.CommandLaws.{InRange, FitEffect, target_in_range, effect_fits}
use Rattle.commands.proofs.history.EmptyLaws.{Remembered, restores_remembered}
use Rattle.sheet.proofs.RunByLaws.{stepped_as, ran_as, run_by_keeps, run_by_related}
use Rattle.sheet.proofs.words.WordLaws.{row_fits}
use Rattle.sheet.proofs.words.PutLaws.{length_put, behind_put}
use Rattle.sheet.proofs.ring.RememberLaws.{length_remembered, behind_remembered}
use Rattle.sheet.proofs.ring.HistoryLaws.{one_put, two_put}
use Rattle.sheet.proofs.ring.TakeBackLaws.{length_taken, behind_taken, taken_back_lem}

-- ---- one command
-- by its effect, where the words are enough, and not at all where they are not
pub lent_by :
    (w : List ℕ) (c : Command) (e : ModelEffect) → state_words ≤ length w → e ≡ effect_on (model_of w) c
    → stepped (words_after w c.t e) (applied (model_of w) c.t e).answer ≡ lent_step w c
unfolding lent_step
lent_by w c e l q =
    let done : ModelEffect → Stepped (List ℕ) = λ d. stepped (words_after w c.t d) (applied (model_of w) c.t d).answer in
    ap done q ∙ sym (ap (λ (b : Bool). cond b (stepped w (refused lent_too_short)) (done (effect_on (model_of w) c))) (le-ltb (length w) state_words l))

pub lent_short : (w : List ℕ) (c : Command) → length w < state_words → stepped w (refused lent_too_short) ≡ lent_step w c
unfolding lent_step
lent_short w c l = simp (lt-ltb (length w) state_words l)

module _ (w : List ℕ) (t : ℕ) where
  effect_lent :
      (e : ModelEffect) → state_words ≤ length w → InRange t e → Remembered (is_some (model_of w).history) e → FitEffect e
      → model_of (words_after w t e) ≡ (applied (model_of w) t e).state
  unfolding words_after applied
  effect_lent (Puts r) l h m f = one_put w t l r h f
  effect_lent (PutsTwo p q) l h m f = two_put w t l p q h f.0 f.1
  effect_lent Restores l h m f = ap (λ (o : Stepped State). o.state) (taken_back_lem w l m)
  effect_lent (Tells x) l h m f = refl

  length_effect : (e : ModelEffect) → length (words_after w t e) ≡ length w
  unfolding words_after
  length_effect (Puts r) = length_put (remembered w t 1) t r ∙ length_remembered w t 1
  length_effect (PutsTwo p q) = length_put (put_row (remembered w t 2) t p) (t + 1) q ∙ length_put (remembered w t 2) t p ∙ length_remembered w t 2
  length_effect Restores = length_taken w
  length_effect (Tells x) = refl

  behind_effect : (e : ModelEffect) → InRange t e → drop state_words (words_after w t e) ≡ drop state_words w
  unfolding words_after
  behind_effect (Puts r) h = behind_put (remembered w t 1) t r h ∙ behind_remembered w t 1 (omega arith)
  behind_effect (PutsTwo p q) h =
      behind_put (put_row (remembered w t 2) t p) (t + 1) q h ∙ behind_put (remembered w t 2) t p (omega (arith, h)) ∙ behind_remembered w t 2 (omega arith)
  behind_effect Restores h = behind_taken w
  behind_effect (Tells x) h = refl

-- a command leaves as many words, those behind the sheet as they are, and the model's command on the sheet that lies in them
module _ (w : List ℕ) (c : Command) (l : state_words ≤ length w) where
  abbrev pub effect : ModelEffect
  effect = effect_on (model_of w) c

  abbrev read : Read
  read = read_at (model_of w) c

  abbrev some : Bool
  some = is_some (model_of w).history

  pub range : InRange c.t effect
  range = target_in_range c read some

  pub by_effect : lent_step w c ≡ stepped (words_after w c.t effect) (applied (model_of w) c.t effect).answer
  by_effect = sym (lent_by w c effect l refl)

  pub length_step : length (lent_step w c).state ≡ length w
  length_step = ap (λ (o : Stepped (List ℕ)). length o.state) by_effect ∙ length_effect w c.t effect

  pub behind_step : drop state_words (lent_step w c).state ≡ drop state_words w
  behind_step = ap (λ (o : Stepped (List ℕ)). drop state_words o.state) by_effect ∙ behind_effect w c.t effect range

  pub step_lent : stepped_as model_of (lent_step w c) ≡ step_of (model_of w) c
  unfolding step_of
  step_lent =
      let fits = effect_fits c read some (row_fits w c.a).numbers (row_fits w c.b).numbers in
      ap (λ (o : Stepped (List ℕ)). stepped_as model_of o) by_effect
      ∙ ap (λ (s : State). stepped s (applied (model_of w) c.t effect).answer) (effect_lent w c.t effect l range (restores_remembered c read some) fits)

-- ---- a list
pub length_run : (w : List ℕ) (cs : List Command) → state_words ≤ length w → length (lent_run w cs).state ≡ length w
length_run w cs l = run_by_keeps (λ (v : List ℕ). length v ≡ length w) lent_step (λ v c e. length_step v c (omega (arith, e, l)) ∙ e) w cs refl

pub behind_run : (w : List ℕ) (cs : List Command) → state_words ≤ length w → drop state_words (lent_run w cs).state ≡ drop state_words w
behind_run w cs l =
    (run_by_keeps (λ (v : List ℕ). (state_words ≤ length v) × (drop state_words v ≡ drop state_words w)) lent_step
    (λ v c k. (omega (arith, length_step v c k.0, k.0), behind_step v c k.0 ∙ k.1)) w cs (l, refl)).1

pub run_lent : (w : List ℕ) (cs : List Command) → state_words ≤ length w → ran_as model_of (lent_run w cs) ≡ run_from (model_of w) cs
run_lent w cs l =
    run_by_related model_of (λ (v : List ℕ). state_words ≤ length v) lent_step step_of (λ v c h. omega (arith, length_step v c h, h)) (λ v c h. step_lent v c h) w cs l

-- and demand 3's claim of it
pub lent_claim : (w : List ℕ) (cs : List Command) → state_words ≤ length w → Claim (model_of w) cs (lent_run w cs).answers (model_of (lent_run w cs).state)
lent_claim w cs l =
    subst (λ (r : Ran State). Claim (model_of w) cs r.answers r.state) (sym (run_lent w cs l)) (model_claim.every_list (model_of w) cs)

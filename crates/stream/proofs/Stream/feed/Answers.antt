-- `stream::Stream::feed` meets its contract. Assumes nothing.
-- What holds at the loop's test (`Turning`): the first i bytes are fed, `produced` is the length of their answers, `out` is these answers and then what was there, and
-- of the bytes behind them so many are consumed as the room that is left allows. It ends, since the bytes that are left grow fewer.
use borrow.Author.Rules.{rules}
use native.Mathlib.Omega.{arith}
use mathlib.Core.Path.{◌≡◌, refl}
use lib.ListN.{length, take}
use Rattle.commands.specs.Answers.{answer_of}
use Rattle.stream.proofs.turns.FeedLaws.{take_min}
use Rattle.stream.proofs.turns.TurnLaws.{step_answered, turned_all, turn_run, turn_ill, turn_push, turn_full}
use Rattle.stream.proofs.Stream.feed.Goals as goal

pub loop-i-preserved-in-Run : goal.loop-i-preserved-in-Run
loop-i-preserved-in-Run c =
    turn_run c.loop-i.invariant (omega arith) c.in-Run.ensures _ _ _ (search rules) (step_answered _ _ _ _ _ _ refl c.step_at.ensures) c.put_line.ensures

pub loop-i-preserved-in-Ill : goal.loop-i-preserved-in-Ill
unfolding answer_of
loop-i-preserved-in-Ill c =
    turn_ill c.loop-i.invariant (omega arith) c.loop-i-test.true c.in-Ill.ensures _ (rw c.numbers_of.ensures at c.put_line-in-Ill.ensures)

pub loop-i-preserved : goal.loop-i-preserved
loop-i-preserved c =
    elim c.if-len-lt-KEPT.branch [
      | goal.then-len-lt-KEPT p ↦ rw (p.line-is, p.len-is) (turn_push c.loop-i.invariant (omega arith) c.loop-i-test.true _ c.in-Byte.ensures p.if-len-lt-KEPT.true)
      | goal.else-len-lt-KEPT p ↦ rw (p.line-is, p.len-is) (turn_full c.loop-i.invariant (omega arith) c.loop-i-test.true _ c.in-Byte.ensures p.if-len-lt-KEPT.false)
    ]

pub returns-after-loop-i : goal.returns-after-loop-i
returns-after-loop-i c =
    let held_text : take c.min-len.result c.args.self.line ≡ take c.args.self.len c.args.self.line = let l : length c.args.self.line ≡ 46 = search rules in
    rw c.min-len.ensures (take_min c.args.self.line c.args.self.len 46 l) in
    turned_all c.loop-i.invariant held_text c.loop-i-test.false

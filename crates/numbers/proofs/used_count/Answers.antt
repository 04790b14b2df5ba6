-- `used_count` meets its contract: after i words the sum is the count of used numbers among the first i * 64.
use Rattle.std.proofs.Common.{ℕ, ◌*◌, ◌≡◌, ◌∙◌, arith, ap, length, sym}
use Rattle.numbers.specs.Numbers.{used, picked, used_count}
use Rattle.numbers.proofs.Ranges.{count_none}
use Rattle.numbers.proofs.Maps.{count_word}
use Rattle.numbers.proofs.used_count.Goals as goal
use lib.Count.{ones-le}

pub loop-word-init : goal.loop-word-init
loop-word-init c = (omega arith, sym (count_none (used c.args.map.now) 0))

pub loop-word-preserved : goal.loop-word-preserved
loop-word-preserved c =
    let fits = c.fits-map c.loop-word.word-index in
    let more = c.from-sum.ensures in
    (omega (arith, ones-le 64 _ fits), omega (arith, count_word c.args.map.now c.loop-word.word-index fits))

pub returns : goal.returns
unfolding used_count
returns c =
    let l = c.loop-word in
    let all : l.word-index ≡ 1024 = omega arith in
    l.invariant.1 ∙ ap (λ (i : ℕ). length (picked (used c.args.map.now) 0 (i * 64))) all

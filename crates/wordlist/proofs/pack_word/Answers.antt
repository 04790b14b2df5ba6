-- `wordlist::pack_word` meets its contract.
use Rattle.std.proofs.Common.{◌≡◌, ◌∙◌, ap, sym, ◌+◌, ◌≤◌, ◌<◌, take, drop, length, length-take, arith}
use Rattle.wordlist.specs.Filled.{fill_to, packed, first_of, rest_of}
use Rattle.wordlist.proofs.PackedBytes.{packed_eight}
use Rattle.wordlist.proofs.Filling.{fill_none, drop_short, first_filled, rest_filled}
use Rattle.wordlist.proofs.pack_word.Goals as goal

pub returns-in-Some : goal.returns-in-Some
returns-in-Some c =
    let w = c.args.w.now in
    let some = c.in-Some in
    let parts = some.ensures.cases in
    let first : some.first.now ≡ take 8 w = parts.0 in
    let rest : some.rest.now ≡ drop 8 w = parts.1 in
    let long : length some.rest.now + 8 ≡ length w = parts.2 in
    let inside : 8 ≤ length w = omega arith in
    let size : length some.first.now ≡ 8 = rw first (omega (arith, length-take 8 w)) in
    let low : c.from_le_bytes.result ≡ first_of w =
    c.from_le_bytes.ensures ∙ packed_eight some.first.now size ∙ ap packed (first ∙ sym (fill_none 8 w inside)) ∙ sym (first_filled w) in
    let high : c.number.result ≡ rest_of w = c.number.ensures ∙ ap (λ v. packed (fill_to 8 v)) rest ∙ sym (rest_filled w) in
    rw (low, high)

pub returns-in-None : goal.returns-in-None
returns-in-None c =
    let w = c.args.w.now in
    let short : length w < 8 = c.in-None.ensures.cases in
    let low : c.number-in-None.result ≡ first_of w = c.number-in-None.ensures ∙ sym (first_filled w) in
    let high : c.number-in-None-2.result ≡ rest_of w = c.number-in-None-2.ensures ∙ ap (λ v. packed (fill_to 8 v)) (sym (drop_short 8 w (omega arith))) ∙ sym (rest_filled w) in
    rw (low, high)

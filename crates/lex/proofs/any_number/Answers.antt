-- `lex::any_number` meets its contract.
use mathlib.Core.Path.{ap, ◌∙◌}
use native.Mathlib.Omega.{arith}
use lib.ListN.{get_or, drop}
use Rattle.lexemes.specs.Words.{word}
use Rattle.lex.specs.Tokens.{word_class}
use Rattle.lexemes.proofs.WordParts.{word_inside, word_part, word_end_is, first_byte}
use Rattle.lexemes.proofs.Steps.{digit_word}
use Rattle.lex.proofs.Cases.{word_bad, word_good}
use Rattle.lex.proofs.any_number.Goals as goal

pub slice_bounds-number_class-end : goal.slice_bounds-number_class-end
slice_bounds-number_class-end c =
    let args = c.args in
    word_inside args.src.now args.at _ (omega arith) c.word_end-end.ensures

pub number_class-class-requires : goal.number_class-class-requires
number_class-class-requires c =
    let args = c.args in
    let first = first_byte args.src.now args.at (digit_word (get_or args.src.now args.at 0) c.requires.1) in
    rw (word_part args.src.now args.at _ c.word_end-end.ensures, first) c.requires.1

pub returns-then-class-eq-BAD : goal.returns-then-class-eq-BAD
returns-then-class-eq-BAD c =
    let args = c.args in
    let is_end = c.word_end-end.ensures in
    let is_class = c.number_class-class.ensures ∙ ap word_class (word_part args.src.now args.at _ is_end) in
    c.empty.ensures ∙ word_bad (word (drop args.at args.src.now)) args.at _ is_class c.if-class-eq-BAD.true

pub returns : goal.returns
returns c =
    let args = c.args in
    let is_end = c.word_end-end.ensures in
    let is_class = c.number_class-class.ensures ∙ ap word_class (word_part args.src.now args.at _ is_end) in
    word_good (word (drop args.at args.src.now)) args.at _ is_class c.if-class-eq-BAD.false _ (word_end_is args.src.now args.at _ is_end)

-- `lex::word_token` meets its contract. The loop's invariant: no word goes on past `end`, and where it is sure, the word ends there.
use mathlib.Core.Path.{◌≡◌, ap, ◌∙◌}
use mathlib.Core.Bool.{false≢true}
use Prim.Native.Nat.{◌+◌}
use native.Mathlib.Omega.{arith}
use lib.ListN.{drop}
use Rattle.lexemes.specs.Bytes.{is_word_byte}
use Rattle.lexemes.specs.Classes.{SIGNS, NAME}
use Rattle.lexemes.specs.Lexemes.{reserved}
use Rattle.lexemes.specs.Words.{run, word, place_among}
use Rattle.lexemes.proofs.Steps.{run_yes}
use Rattle.lexemes.proofs.Equality.{place_le}
use Rattle.lexemes.proofs.WordParts.{word_inside, word_part, word_stops}
use Rattle.lex.proofs.Cases.{known_token, name_token}
use Rattle.lex.proofs.word_token.Goals as goal

pub likely_end-end-requires : goal.likely_end-end-requires
likely_end-end-requires c = c.requires.0

pub loop-at-init : goal.loop-at-init
loop-at-init c = (c.likely_end-end.ensures, λ e. absurd (false≢true e))

pub slice_bounds-class_of-count : goal.slice_bounds-class_of-count
slice_bounds-class_of-count c = omega (arith, c.loop-at.invariant.0.after)

pub slice_bounds-class_of-start : goal.slice_bounds-class_of-start
slice_bounds-class_of-start c = omega (arith, c.loop-at.invariant.0.after)

pub slice_bounds-class_of-end : goal.slice_bounds-class_of-end
slice_bounds-class_of-end c = c.loop-at.invariant.0.inside

pub returns-then-class-lt-NAME : goal.returns-then-class-lt-NAME
returns-then-class-lt-NAME c = known_token c.args.src.now c.args.at c.requires.1 c.requires.2 _ c.loop-at.end c.loop-at.invariant.0 c.class_of-class.ensures c.if-class-lt-NAME.true

pub returns-then-sure : goal.returns-then-sure
unfolding reserved
returns-then-sure c =
    let start = c in
    let s = start.args.src.now in
    let at = start.args.at in
    let end = c.loop-at.end in
    let is_end = c.loop-at.invariant.1 c.if-sure.true in
    let w = word (drop at s) in
    let is_class = c.class_of-class.ensures ∙ ap (λ w. SIGNS + place_among w reserved) (word_part s at end is_end) in
    let is_name : NAME ≡ SIGNS + place_among w reserved = omega (arith, is_class, place_le w reserved, c.if-class-lt-NAME.false) in
    name_token s at start.requires.1 start.requires.2 NAME end is_name is_end

pub loop-at-smaller : goal.loop-at-smaller
loop-at-smaller c = rw c.if-sure.false (omega arith)

pub loop-at-preserved : goal.loop-at-preserved
loop-at-preserved c =
    let s = c.args.src.now in
    let at = c.args.at in
    let step = run_yes is_word_byte s at c.requires.0 c.requires.1 in
    let is_end : c.word_end-end.result ≡ at + run is_word_byte (drop at s) = omega (arith, c.word_end-end.ensures) in
    (record { after = omega arith; inside = word_inside s at _ (omega arith) is_end; ends = rw is_end (word_stops s at) }, λ _. is_end)

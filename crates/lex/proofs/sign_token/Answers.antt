-- `lex::sign_token` meets its contract.
use mathlib.Core.Path.{ap, sym, ◌∙◌}
use native.Mathlib.Omega.{arith}
use lib.ListN.{get_or}
use Prim.Native.Nat.{◌+◌}
use Rattle.lex.proofs.Cases.{two_class, sign_two, sign_one, sign_bad, no_first}
use Rattle.lex.proofs.sign_token.Goals as goal

pub returns-then-one-le-SEMICOLON : goal.returns-then-one-le-SEMICOLON
returns-then-one-le-SEMICOLON c =
    let args = c.args in
    let is_one = c.one_byte-one.ensures in
    let is_two = sym (no_first (get_or args.src.now args.at 0) (get_or args.src.now (args.at + 1) 0) _ is_one c.if-one-le-SEMICOLON.true) in
    sign_one args.src.now args.at _ c.requires is_two _ (omega arith) is_one (omega arith)

pub returns-then-two-lt-SIGNS : goal.returns-then-two-lt-SIGNS
returns-then-two-lt-SIGNS c =
    let args = c.args in
    let is_two = c.two_bytes-two.ensures ∙ ap (two_class args.src.now args.at) c.byte_at.ensures in
    sign_two args.src.now args.at _ c.requires is_two c.if-two-lt-SIGNS.true

pub returns-then-one-lt-SIGNS : goal.returns-then-one-lt-SIGNS
returns-then-one-lt-SIGNS c =
    let args = c.args in
    let is_two = c.two_bytes-two.ensures ∙ ap (two_class args.src.now args.at) c.byte_at.ensures in
    sign_one args.src.now args.at _ c.requires is_two _ c.if-two-lt-SIGNS.false c.one_byte-one.ensures c.if-one-lt-SIGNS.true

pub returns : goal.returns
returns c =
    let args = c.args in
    let is_two = c.two_bytes-two.ensures ∙ ap (two_class args.src.now args.at) c.byte_at.ensures in
    c.empty.ensures ∙ sign_bad args.src.now args.at _ c.requires is_two _ c.if-two-lt-SIGNS.false c.one_byte-one.ensures c.if-one-lt-SIGNS.false

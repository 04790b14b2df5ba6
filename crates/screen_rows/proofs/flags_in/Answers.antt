-- `screen_rows::flags_in` meets its contract.
use mathlib.Core.Path.{◌≡◌}
use borrow.Author.Rules.{rules}
use lib.ListN.{get_or, take}
use Rattle.screen_rows.proofs.FlagLaws.{flags_plain, flags_condition}
use Rattle.screen_rows.proofs.flags_in.Goals as goal

pub returns-then-is_hiding : goal.returns-then-is_hiding
returns-then-is_hiding c =
    let a = c.args in
    let before : c.unwrap_or-flags.result ≡ get_or (take a.row a.out.now) c.cell-parent.result 0 = search rules in
    flags_condition _ _ _ _ c.cell-code.ensures c.cell-parent.ensures before c.value_after-v.ensures c.own_flags.ensures

pub returns : goal.returns
returns c =
    let a = c.args in
    let before : c.unwrap_or-flags.result ≡ get_or (take a.row a.out.now) c.cell-parent.result 0 = search rules in
    flags_plain _ _ _ _ c.cell-code.ensures c.cell-parent.ensures before c.if-is_hiding.ensures c.if-is_greying.ensures

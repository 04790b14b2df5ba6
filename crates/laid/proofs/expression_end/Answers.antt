-- `laid::expression_end` meets its contract.
use Prim.Native.Nat.{max}
use mathlib.Core.Path.{◌≡◌, ap, ◌∙◌}
use mathlib.Core.Bool.{true, false}
use borrow.Author.Rules.{rules}
use Rattle.std.proofs.lemmas.Iterator.{first_from_Range}
use Rattle.std.specs.Prelude.{unwrap_or}
use Rattle.laid.proofs.EndLaws.{end_found, stretch_found}
use Rattle.rows.specs.Codes.{is_expression}
use Rattle.rows.specs.Columns as column
use Rattle.rows.specs.Table.{cell_at}
use Rattle.laid.proofs.expression_end.Goals as goal

pub returns : goal.returns
returns c =
    let a = c.args in
    let first =
    first_from_Range _ _ _ c.find.result (λ row. is_expression (cell_at a.table.now row column.CODE) ≡ false)
    (λ row. is_expression (cell_at a.table.now row column.CODE) ≡ true) c.find.ensures.ran (λ x q h. search rules) (λ x q h. search rules) in
    let found : c.unwrap_or.result ≡ unwrap_or c.find.result (max a.from a.count) = c.unwrap_or.ensures ∙ ap (unwrap_or c.find.result) c.max.ensures in
    record {
      is = found ∙ end_found a.table.now a.count a.from c.find.result first;
      stretch = rw found (stretch_found a.table.now a.count a.from c.find.result first);
    }

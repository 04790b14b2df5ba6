-- `family::read_all` meets its contract. The loop keeps what is done after k sources.
-- Assumes nothing.
use borrow.Author.Rules.{rules}
use Rattle.family.proofs.AllLaws.{so_far_none, same_table, same_answers, free, good_end, end_inside, so_far_next, so_far_all}
use Rattle.family.proofs.read_all.Goals as goal

pub loop-k-init : goal.loop-k-init
loop-k-init c = so_far_none c.requires

pub slice_bounds-read_next-count : goal.slice_bounds-read_next-count
slice_bounds-read_next-count c = (good_end c.loop-k.invariant (search rules)).0

pub slice_bounds-read_next-start : goal.slice_bounds-read_next-start
slice_bounds-read_next-start c = (good_end c.loop-k.invariant (search rules)).0

pub slice_bounds-read_next-end : goal.slice_bounds-read_next-end
slice_bounds-read_next-end c = end_inside c.loop-k.invariant (search rules)

pub read_next-rows-requires : goal.read_next-rows-requires
read_next-rows-requires c = free c.loop-k.invariant

pub loop-k-preserved : goal.loop-k-preserved
loop-k-preserved c =
    let read = c.read_next-rows.ensures in
    let loop = c.loop-k in
    let pre = c.requires in
    so_far_next loop.invariant (search rules) pre.enough read.value read.table_after read.out_after

pub shape_of-table : goal.shape_of-table
shape_of-table c = same_table c.loop-k.invariant

pub shape_of-answers : goal.shape_of-answers
shape_of-answers c = same_answers c.loop-k.invariant

pub returns : goal.returns
returns c = so_far_all c.loop-k.invariant (search rules)

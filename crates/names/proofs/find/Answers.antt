-- `names::find` meets its contract.
use Rattle.rows.specs.Marks.{marked}
use Rattle.names.proofs.NameLaws.{find_none, find_along}
use Rattle.names.proofs.find.Goals as goal

pub returns-then-index-lt-BUCKETS : goal.returns-then-index-lt-BUCKETS
returns-then-index-lt-BUCKETS c = find_none c.args.src.now c.args.index.now (marked c.args.name) c.args.rule c.if-index-lt-BUCKETS.true

pub returns : goal.returns
returns c = find_along c.args.src.now c.args.index.now (marked c.args.name) c.args.rule c.key_of-bucket.ensures.bucket c.key_of-bucket.ensures.tag c.follow.ensures

-- `put_number`: the eight bytes at eight times the index.
use Rattle.report.proofs.EightLaws.{put-way}
use borrow.Author.Rules.{rules}
use Rattle.report.proofs.eights.put_number.Goals as goal

pub returns : goal.returns
returns c = search (rules, put-way)

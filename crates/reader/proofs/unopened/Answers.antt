-- The path has no names.
use Rattle.reader.proofs.Answers.{refused-nowhere}
use Rattle.reader.proofs.unopened.Goals as goal

pub returns : goal.returns
returns c = refused-nowhere _ c.nowhere.ensures

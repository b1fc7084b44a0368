-- No room for the bytes, or they are moved.
use Rattle.reader_parts.proofs.TextWays.{copied, copied-not, copied-past}
use Rattle.reader_parts.proofs.values.copy.Goals as goal
use Rattle.reader_parts.proofs.values.copy.Goals.{then-texts-used-via-then-texts-used, then-texts-used-via-else-texts-used+then-texts-used-2}

pub returns-then-texts-used : goal.returns-then-texts-used
returns-then-texts-used c =
    elim c.then-texts-used.branch [
      | then-texts-used-via-then-texts-used w ↦ copied-past _ _ _ _ _ w.if-texts-used.true
      | then-texts-used-via-else-texts-used+then-texts-used-2 w ↦ copied-not _ _ _ _ _ w.if-texts-used-2.true
    ]

pub returns : goal.returns
returns c = copied _ c.type_inv.payload _ _ _ _ _ _ c.move_octets.ensures

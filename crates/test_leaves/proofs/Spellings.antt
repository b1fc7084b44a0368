-- What spells a value by what a code is spells it by the code.
use Prim.Native.Nat.{ℕ}
use mathlib.Core.Path.{◌≡◌}
use Rattle.value.specs.Code as meaning
use Rattle.value.specs.Code.{code_out}
use Rattle.value.specs.Answer.{code_is}
use Rattle.value.specs.declared.Code as code_t
use Rattle.writer_parts.specs.Notes.{Spelling, Spelt}

pub spelt-as : (code : code_t.Code) (k : meaning.Code) (v : ℕ) (s : Spelling) → code_is code ≡ k → Spelt 41 (code_out k v) s → Spelt 41 (code_out (code_is code) v) s
spelt-as code k v s e h = rw e h

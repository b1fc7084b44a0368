-- Each way through an event without bits.
use Prim.Native.Nat.{ℕ}
use mathlib.Core.Path.{◌≡◌, refl}
use mathlib.Core.List.{List, []}
use native.Mathlib.Omega.{arith}
use Rattle.wire.specs.Res.{got}
use Rattle.model.specs.Write.{Bare}
use Rattle.writer_parts.specs.declared.Spot.{Spot}
use Rattle.std.specs.Prelude.{Ok}
use Rattle.writer_parts.specs.Notes.{keeps}
use Rattle.writer_parts.proofs.NoteLaws.{note-none}
use Rattle.writer_parts.specs.Walk.{events_at, texts_at, Ready, past, Walked, judged, noted}
use Rattle.writer_parts.proofs.PutWays.{put-fine}
use Rattle.writer_parts.proofs.JudgingWays.{fine, faulty, judged-few, judged-room, noted-unlike, noted-got}

-- mark
pub mark-go : (L X : List ℕ) (c : Spot) (N : List ℕ) (f : Bare) → Ready L X N c → 0 ≡ judged L c.event f → (M : List ℕ) → M ≡ keeps N c.event 0
    → Walked L X (noted f (got ([], texts_at X c.used)) (events_at L c.event)) c N (Ok (past c)) M
mark-go L X c N f r z M k = noted-got L X c N f _ r z [] 0 M (past c) refl (note-none X) k refl (omega arith) (omega arith) r.used (omega arith)

pub ruleset mark_ways = (put-fine, fine, faulty, noted-unlike, judged-few, judged-room, mark-go)

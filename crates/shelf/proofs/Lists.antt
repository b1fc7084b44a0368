-- Entries listed: one more, those of a stretch, and what the list then is.
use Rattle.std.proofs.Common.{◌≡◌, ℕ, suc, ◌+◌, ◌-◌, ◌*◌, ◌/◌, ◌<◌, ◌≤◌, min, List, [], ◌∷◌, ◌++◌, length, set, sym, refl, ap, ◌∙◌, ⊎_elim, arith, le-ltb, lt-ltb}
use lib.Seq.{sets, length-sets}
use Rattle.buffers.specs.Bytes.{four, spelled, bytes_of}
use Rattle.shelf.specs.declared.answers.Listed.{Listed}
use Rattle.shelf.specs.Judge.{used_at, end_at}
use Rattle.shelf.specs.Salvage.{Entry, dropped_in, good_entry, good_entries, bytes_dropped, entry_words}
use Rattle.shelf.specs.Rescue.{Listing, entered, listing, good_in, Goods, Few}
use Rattle.shelf.proofs.Sides.{less}
use Rattle.shelf.proofs.Stays.{accounts}

-- an entry's three words
sets-append : (l : List ℕ) (i : ℕ) (xs ys : List ℕ) → sets l i (xs ++ ys) ≡ sets (sets l i xs) (i + length xs) ys
sets-append l i [] ys = let e : i + 0 ≡ i = omega arith in rw e
sets-append l i (x ∷ xs) ys = let e : i + suc (length xs) ≡ suc i + length xs = omega arith in rw e (sets-append (set l i x) (suc i) xs ys)

abbrev entry : (block reason bytes : ℕ) → Entry
entry block reason bytes = record { block = block; reason = reason; bytes = bytes }

module _ (list : List ℕ) (entries block reason bytes : ℕ) where
  entered-put : {w : ℕ} {l₁ l₂ l₃ : List ℕ} → entries < length list / 12 → w ≡ min block 4294967295 → l₁ ≡ sets list (12 * entries) (four w) → l₂ ≡ sets l₁ (12 * entries + 4) (four reason)
      → l₃ ≡ sets l₂ (12 * entries + 8) (four bytes) → l₃ ≡ entered list entries (entry block reason bytes)
  unfolding entered entry_words spelled
  entered-put {w} {l₁} {l₂} {l₃} h e e₁ e₂ e₃ =
      let at = 12 * entries in
      let k : at + 4 + 4 ≡ at + 8 = omega arith in
      e₃
      ∙ ap (λ (x : List ℕ). sets x (at + 8) (four bytes)) (e₂ ∙ ap (λ (x : List ℕ). sets x (at + 4) (four reason)) e₁)
      ∙ ap (λ (x : ℕ). sets (sets (sets list at (four w)) (at + 4) (four reason)) x (four bytes)) (sym k)
      ∙ sym (sets-append (sets list at (four w)) (at + 4) (four reason) (four bytes))
      ∙ sym (sets-append list at (four w) (four reason ++ four bytes))
      ∙ ap (λ (x : ℕ). sets list at (four x ++ (four reason ++ four bytes))) e
      ∙ rw (lt-ltb entries (length list / 12) h)

-- and counted
pub entered-counted : (x : Listing) (block reason bytes : ℕ) {w : ℕ} {l₁ l₂ l₃ : List ℕ} → x.entries < length x.list / 12 → w ≡ min block 4294967295 → l₁ ≡ sets x.list (12 * x.entries) (four w)
    → l₂ ≡ sets l₁ (12 * x.entries + 4) (four reason) → l₃ ≡ sets l₂ (12 * x.entries + 8) (four bytes)
    → record { entries = x.entries + 1; dropped = x.dropped + bytes; list = l₃ } ≡ listing x (entry block reason bytes ∷ [])
unfolding listing
entered-counted x block reason bytes h e e₁ e₂ e₃ =
    let counted : List ℕ → Listing = λ l. record { entries = x.entries + 1; dropped = x.dropped + bytes; list = l } in
    ap counted (entered-put x.list x.entries block reason bytes h e e₁ e₂ e₃)

-- a good block
dropped-most : (lo hi start stop : ℕ) → lo ≤ hi → start ≤ stop → dropped_in lo hi start stop ≤ hi - lo
dropped-most lo hi start stop h g = omega (arith, accounts lo hi start stop h g)

-- entries one after another
pub listing-append : (x : Listing) (es fs : List Entry) → listing x (es ++ fs) ≡ listing (listing x es) fs
unfolding listing
listing-append x [] fs = refl
listing-append x (e ∷ es) fs = listing-append (record { entries = x.entries + 1; dropped = x.dropped + e.bytes; list = entered x.list x.entries e }) es fs

-- one more good block
module _ (f : List ℕ) (start stop last : ℕ) where
  pub good_none : (x : Listing) (i : ℕ) → last ≤ i → x ≡ listing x (good_in f i last start stop)
  unfolding good_in good_entries listing
  good_none x i h = let e : last - i ≡ 0 = omega arith in rw e

  pub good_more : (x : Listing) (i : ℕ) → i < last → listing x (good_in f i last start stop) ≡ listing (listing x (good_entry i (dropped_in (498 * i) (end_at f i) start stop))) (good_in f (i + 1) last start stop)
  unfolding good_in good_entries
  good_more x i h =
      let e : last - i ≡ suc (last - (i + 1)) = omega arith in
      rw e (listing-append x (good_entry i (dropped_in (498 * i) (end_at f i) start stop)) (good_entries (last - (i + 1)) f (record { first = 0; last = 0; start = start; stop = stop; count = 0; reason = 0 }) (i + 1)))

  pub good-again : (A y z : Listing) (i : ℕ) → A ≡ listing y (good_in f i last start stop) → i < last → z ≡ listing y (good_entry i (dropped_in (498 * i) (end_at f i) start stop))
      → A ≡ listing z (good_in f (i + 1) last start stop)
  good-again A y z i e h g = e ∙ good_more y i h ∙ ap (λ (x : Listing). listing x (good_in f (i + 1) last start stop)) (sym g)

  pub good-done : (A y : Listing) (i : ℕ) → A ≡ listing y (good_in f i last start stop) → last ≤ i → y ≡ A
  good-done A y i e h = good_none y i h ∙ sym e

pub goods-at : (f : List ℕ) (first last i : ℕ) → Goods f first last → first ≤ i → i < last → used_at f i ≤ 498
goods-at f first last i g h l = g.most i h l

pub few-end : (i last : ℕ) (l : Listed) → Few i l → i ≤ last → last ≤ i → Few last l
few-end i last l q g h = let z : i ≡ last = omega arith in rw z at q

-- ALL OF THEM: how many, how many bytes
pub listing-entries : (x : Listing) (es : List Entry) → (listing x es).entries ≡ x.entries + length es
unfolding listing
listing-entries x [] = omega arith
listing-entries x (e ∷ es) =
    let h = listing-entries (record { entries = x.entries + 1; dropped = x.dropped + e.bytes; list = entered x.list x.entries e }) es in omega arith

pub listing-dropped : (x : Listing) (es : List Entry) → (listing x es).dropped ≡ x.dropped + bytes_dropped es
unfolding listing bytes_dropped
listing-dropped x [] = omega arith
listing-dropped x (e ∷ es) =
    let h = listing-dropped (record { entries = x.entries + 1; dropped = x.dropped + e.bytes; list = entered x.list x.entries e }) es in omega arith

entered-long : (list : List ℕ) (k : ℕ) (e : Entry) → length (entered list k e) ≡ length list
unfolding entered
entered-long list k e =
    ⊎_elim (λ (h : k < length list / 12). rw (lt-ltb k (length list / 12) h) (length-sets list (12 * k) (bytes_of (entry_words (e ∷ [])))))
    (λ (h : length list / 12 ≤ k). rw (le-ltb k (length list / 12) h)) (less k (length list / 12))

pub listing-long : (x : Listing) (es : List Entry) → length (listing x es).list ≡ length x.list
unfolding listing
listing-long x [] = refl
listing-long x (e ∷ es) =
    listing-long (record { entries = x.entries + 1; dropped = x.dropped + e.bytes; list = entered x.list x.entries e }) es ∙ entered-long x.list x.entries e

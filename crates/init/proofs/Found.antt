-- What an item that was found says: it passed each judgement, and lies below the wall.
use Prim.Native.Nat.{ℕ, ◌+◌, ◌-◌, ◌*◌, ◌≤◌, ◌<◌}
use mathlib.Core.Path.{◌≡◌, refl, sym, ap}
use mathlib.Core.Bool.{false, cond}
use mathlib.Core.List.{List}
use native.Mathlib.Omega.{arith}
use native.Mathlib.Decide.{dec_lt, dec_le, ℕ_discrete}
use borrow.Author.Tests.{lt-ltb, le-ltb, eq-eqb, ne_eqb, lt-leb}
use lib.ListN.{get_or}
use lib.Dec.{ltb, eqb}
use Rattle.numbers.specs.Refusal.{accepted, past_end, not_shortest, too_large}
use Rattle.numbers.specs.Limit.{most_schemas, init_words}
use Rattle.wire.specs.Res.{Res, got, fault, ◌>>=◌, ◌>>◌}
use Rattle.init.specs.declared.Item.{Item}
use Rattle.init.specs.declared.Item.TheVariants as item
use Rattle.init.specs.declared.Phase.{Phase}
use Rattle.init.specs.declared.Phase.TheVariants.{Profile, UnitByte, NoFlags, Length, Flags, Schemas, Uri, Hint, Codecs, Codec, Types, OneType, Formats, NoFormats, Description, End}
use Rattle.init.specs.Items.{Head, byte_at, second_at, number_at, head_of, head_at, before, body, after, rest_at, item_at, two}
use Rattle.init.specs.Items.Head.{eight, byte, nothing}
use Rattle.init.specs.Phases.{item_of, slot_of, reach, grown, spare, ends}
use Rattle.init.specs.Reads.{slot_index}
use Rattle.init.proofs.ItemWays.{byte-is, byte-no, pass-good, pass-bad, most-good, most-bad}

-- nothing is got of a refusal
pub no-got : {A : Type 0} {m : Res A} (e : ℕ) (a : A) → m ≡ fault e → m ≡ got a → ⊥
no-got e a p q = let z : ◌≡◌ {A = ℕ} 0 1 = cc in omega arith

-- two that are got of the same are the same
pub got_same : {A : Type 0} {m : Res A} (a b : A) → m ≡ got a → m ≡ got b → a ≡ b
got_same a b p q = cc

pub record Passed (i : Item) (wall v p q : ℕ) : Type 0 where
  pub judged : before i v ≡ accepted
  pub next : q ≡ p + body i v
  pub within : q ≤ wall
  pub flagged : after i v ≡ accepted

module _ (i : Item) (wall v p : ℕ) where
  pub passes : before i v ≡ accepted → p + body i v ≤ wall → after i v ≡ accepted → rest_at i wall v p ≡ got (v, p, p + body i v)
  unfolding rest_at ◌>>◌
  passes h k l = rw (pass-good _ h, most-good _ _ past_end k, pass-good _ l)

  pub rest-passed : (r : ℕ × ℕ × ℕ) → rest_at i wall v p ≡ got r → (r.0 ≡ v) × (r.1 ≡ p) × Passed i wall v p r.2
  unfolding rest_at ◌>>◌
  rest-passed r e = elim (ℕ_discrete (before i v) accepted) [
    | no h ↦ absurd (no-got (before i v) r (rw (pass-bad _ h)) e)
    | yes h ↦ elim (dec_le (p + body i v) wall) [
      | no k ↦ absurd (no-got past_end r (rw (pass-good _ h, most-bad (p + body i v) wall past_end (omega arith))) e)
      | yes k ↦ elim (ℕ_discrete (after i v) accepted) [
        | no l ↦ absurd (no-got (after i v) r (rw (pass-good _ h, most-good _ _ past_end k, pass-bad _ l)) e)
        | yes l ↦
            let g : r ≡ (v, p, p + body i v) = got_same r (v, p, p + body i v) e (passes h k l) in (
              ap (λ (x : ℕ × ℕ × ℕ). x.0) g,
              ap (λ (x : ℕ × ℕ × ℕ). x.1) g,
              record { judged = h; next = ap (λ (x : ℕ × ℕ × ℕ). x.2) g; within = rw g k; flagged = l },
            )
      ]
    ]
  ]

-- how far a number goes, at the least
unfoldable pub spends : Head → ℕ
spends eight = 1
spends byte = 1
spends nothing = 0

pub byte-goes : (s : List ℕ) (wall at v p : ℕ) → byte_at s wall at ≡ got (v, p) → (v ≡ get_or s at 0) × (p ≡ at + 1) × (at < wall)
byte-goes s wall at v p e = elim (dec_lt at wall) [
  | yes h ↦
      let g : ◌≡◌ {A = ℕ × ℕ} (v, p) (get_or s at 0, at + 1) = got_same _ _ e (byte-is s wall at h) in
      (ap (λ (x : ℕ × ℕ). x.0) g, ap (λ (x : ℕ × ℕ). x.1) g, h)
  | no h ↦ absurd (no-got past_end (v, p) (byte-no s wall at (omega arith)) e)
]

second-goes : (s : List ℕ) (wall x at v p : ℕ) → second_at s wall x at ≡ got (v, p) → at + 1 ≤ p
unfolding second_at ◌>>=◌
second-goes s wall x at v p e = elim (dec_lt at wall) [
  | no h ↦ absurd (no-got past_end (v, p) (rw (byte-no s wall at (omega arith))) e)
  | yes h ↦ last (get_or s at 0) (rw (byte-is s wall at h) at e)
]
  where
    last : (y : ℕ) → cond {A = Res (ℕ × ℕ)} (ltb y 128) (cond {A = Res (ℕ × ℕ)} (eqb x 0) (fault not_shortest) (got (x * 128 + y, at + 1))) (fault too_large) ≡ got (v, p) → at + 1 ≤ p
    last y f = elim (dec_lt y 128) [
      | no k ↦ absurd (no-got too_large (v, p) (rw (le-ltb y 128 (omega arith))) f)
      | yes k ↦ elim (ℕ_discrete x 0) [
        | yes z ↦ absurd (no-got not_shortest (v, p) (rw (lt-ltb _ _ k, eq-eqb _ _ z)) f)
        | no z ↦
            let g : ◌≡◌ {A = ℕ × ℕ} (v, p) (x * 128 + y, at + 1) = got_same _ _ f (rw (lt-ltb _ _ k, ne_eqb _ _ z)) in
            omega (arith, ap (λ (r : ℕ × ℕ). r.1) g)
      ]
    ]

number-goes : (s : List ℕ) (wall at v p : ℕ) → number_at s wall at ≡ got (v, p) → at + 1 ≤ p
unfolding number_at ◌>>=◌
number-goes s wall at v p e = elim (dec_lt at wall) [
  | no h ↦ absurd (no-got past_end (v, p) (rw (byte-no s wall at (omega arith))) e)
  | yes h ↦ last (get_or s at 0) (rw (byte-is s wall at h) at e)
]
  where
    last : (x : ℕ) → cond {A = Res (ℕ × ℕ)} (ltb x 128) (got (x, at + 1)) (second_at s wall (x - 128) (at + 1)) ≡ got (v, p) → at + 1 ≤ p
    last x f = elim (dec_lt x 128) [
      | yes k ↦
          let g : ◌≡◌ {A = ℕ × ℕ} (v, p) (x, at + 1) = got_same _ _ f (rw (lt-ltb _ _ k)) in
          omega (arith, ap (λ (r : ℕ × ℕ). r.1) g)
      | no k ↦ let g = second-goes s wall (x - 128) (at + 1) v p (rw (le-ltb x 128 (omega arith)) at f) in omega arith
    ]

head-goes : (h : Head) (s : List ℕ) (wall at v p : ℕ) → head_at h s wall at ≡ got (v, p) → at + spends h ≤ p
unfolding head_at spends
head-goes eight s wall at v p e = number-goes s wall at v p e
head-goes byte s wall at v p e = let g = byte-goes s wall at v p e in omega arith
head-goes nothing s wall at v p e =
    let g : ◌≡◌ {A = ℕ × ℕ} (0, at) (v, p) = got_same {m = got (0, at)} _ _ refl e in omega (arith, ap (λ (r : ℕ × ℕ). r.1) g)

-- an item that was found
pub record Seen (i : Item) (s : List ℕ) (wall at v p q : ℕ) : Type 0 where
  pub head : head_at (head_of i) s wall at ≡ got (v, p)
  pub passed : Passed i wall v p q
  pub goes : at + spends (head_of i) ≤ p

pub item-seen : (i : Item) (s : List ℕ) (wall at v p q : ℕ) → item_at i s wall at ≡ got (v, p, q) → Seen i s wall at v p q
unfolding item_at ◌>>=◌
item-seen i s wall at v p q e = by (head_at (head_of i) s wall at) refl e
  where
    by : (m : Res (ℕ × ℕ)) → head_at (head_of i) s wall at ≡ m → (m >>= λ r. rest_at i wall r.0 r.1) ≡ got (v, p, q) → Seen i s wall at v p q
    by (fault f) h k = absurd (no-got f (v, p, q) refl k)
    by (got (u, o)) h k =
        let g = rest-passed i wall u o (v, p, q) k in
        let e₀ : u ≡ v = sym g.0 in
        let e₁ : o ≡ p = sym g.1 in
        let h' : head_at (head_of i) s wall at ≡ got (v, p) = rw (e₀, e₁) at h in
        let r : Passed i wall v p q = rw (e₀, e₁) at g.2 in
        record { head = h'; passed = r; goes = head-goes (head_of i) s wall at v p h' }

-- the words of an item lie in init
pub slot-lies : (ph : Phase) → reach ph ≤ init_words → slot_index (slot_of ph) + cond (two (item_of ph)) 2 1 ≤ init_words
unfolding reach slot_index slot_of two item_of
slot-lies Profile h = omega arith
slot-lies UnitByte h = omega arith
slot-lies NoFlags h = omega arith
slot-lies Length h = omega arith
slot-lies (Flags n) h = omega arith
slot-lies (Schemas f) h = omega arith
slot-lies (Uri l) h = omega arith
slot-lies (Hint l) h = omega arith
slot-lies (Codecs l) h = omega arith
slot-lies (Codec l) h = omega arith
slot-lies (Types l) h = omega arith
slot-lies (OneType l) h = omega arith
slot-lies Formats h = omega arith
slot-lies NoFormats h = omega arith
slot-lies Description h = omega arith
slot-lies End h = omega arith

few-schemas : (v : ℕ) → before item.Schemas v ≡ accepted → 12 + 5 * v ≤ init_words
unfolding before
few-schemas v e = elim (dec_le v most_schemas) [
  | yes h ↦ omega arith
  | no h ↦ absurd (let g : 30 ≡ 0 = rw (ne_eqb v 0 (λ z. omega arith), lt-leb v most_schemas (omega arith)) at e in omega arith)
]

pub grown-lies : (ph : Phase) (v : ℕ) → reach ph ≤ init_words → before (item_of ph) v ≡ accepted → grown ph v ≤ init_words
unfolding grown reach item_of
grown-lies Profile v h e = omega arith
grown-lies UnitByte v h e = omega arith
grown-lies NoFlags v h e = omega arith
grown-lies Length v h e = omega arith
grown-lies (Flags n) v h e = omega arith
grown-lies (Schemas f) v h e = few-schemas v e
grown-lies (Uri l) v h e = h
grown-lies (Hint l) v h e = h
grown-lies (Codecs l) v h e = h
grown-lies (Codec l) v h e = h
grown-lies (Types l) v h e = h
grown-lies (OneType l) v h e = h
grown-lies Formats v h e = omega arith
grown-lies NoFormats v h e = omega arith
grown-lies Description v h e = omega arith
grown-lies End v h e = omega arith

-- an item whose words stand in codecs goes on
pub spare-spends : (ph : Phase) → ends ph ≡ false → spare (slot_of ph) ≤ spends (head_of (item_of ph))
unfolding spare slot_of spends head_of item_of ends
spare-spends Profile e = omega arith
spare-spends UnitByte e = omega arith
spare-spends NoFlags e = omega arith
spare-spends Length e = omega arith
spare-spends (Flags n) e = omega arith
spare-spends (Schemas f) e = omega arith
spare-spends (Uri l) e = omega arith
spare-spends (Hint l) e = omega arith
spare-spends (Codecs l) e = omega arith
spare-spends (Codec l) e = omega arith
spare-spends (Types l) e = omega arith
spare-spends (OneType l) e = omega arith
spare-spends Formats e = omega arith
spare-spends NoFormats e = omega arith
spare-spends Description e = omega arith
spare-spends End e = absurd (let z : ◌≡◌ {A = ℕ} 0 1 = cc in omega arith)

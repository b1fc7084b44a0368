-- The worked table of document 01 is right, damaged copies of it are wrong at the words that they should be, and its rows say what
-- the document says.
use Prim.Native.Nat.{ℕ}
use mathlib.Core.Path.{◌≡◌, refl}
use mathlib.Core.List.{List, [], ◌∷◌, ◌++◌, map}
use mathlib.Core.Bool.{false}
use lib.ListN.{set, take}
use Rattle.table.specs.First.{Verdict, first, judge, ◌then◌}
use Rattle.table.specs.First.Verdict.{right, wrong}
use Rattle.table.specs.Rows.{Table, table_of, content_of, content_from, row_of, row_at, row_from, attributes_of, attributes_from, attribute_of, first_of, count_of}
use Rattle.table.specs.Rows.Row.{element, sequence, occurs}
use Rattle.table.specs.Rows.Content.{simple, particles}
use Rattle.table.specs.Valid.{verdict, verdict_from, header_words, given, row_words, rows, type_row, front_words, content_words, empty_words, simple_words, particles_words, kind_words, range_words, enumeration_words, unused_words, attribute_row, attribute_words, particle_row, particle_words, element_words, group_words, occurs_words, count_words, derived_words, substitute_words, among, once, words_from, type_pair, row_pair, derived_row, substitute_row, type_pair_row, row_pair_row, cast_words, form_words, form_size, length_right}

-- type 0 particles at row 0 with attribute row 0; type 1 boolean; type 2 ranged -3 to 4; type 3 text; all held
abbrev pub worked : List ℕ
worked =
    (1 ∷ 4 ∷ 1 ∷ 4 ∷ [])
    ++ (1 ∷ 2 ∷ 0 ∷ 1 ∷ 0 ∷ 0 ∷ 0 ∷ [])
    ++ (1 ∷ 1 ∷ 0 ∷ 0 ∷ 0 ∷ 0 ∷ 0 ∷ [])
    ++ (1 ∷ 1 ∷ 0 ∷ 0 ∷ 1 ∷ 0xfffffffd ∷ 4 ∷ [])
    ++ (1 ∷ 1 ∷ 0 ∷ 0 ∷ 5 ∷ 0 ∷ 0 ∷ [])
    ++ (20 ∷ 0 ∷ 2 ∷ [])
    ++ (1 ∷ 1 ∷ 2 ∷ 0 ∷ [])
    ++ (0 ∷ 11 ∷ 3 ∷ 0 ∷ [])
    ++ (3 ∷ 3 ∷ 0 ∷ 3 ∷ [])
    ++ (0 ∷ 12 ∷ 1 ∷ 0 ∷ [])

-- form 2: type 1 (boolean) has derived 2 (text), 3 (empty), 4 (unsigned), type 3 has 4; element 12 of type 3 has the substitutes 13 (type 1), 14 (type 2), 15 (type 3)
abbrev pub cast : List ℕ
cast =
    (2 ∷ 5 ∷ 0 ∷ 3 ∷ [])
    ++ (1 ∷ 2 ∷ 0 ∷ 0 ∷ 0 ∷ 0 ∷ 0 ∷ [])
    ++ (1 ∷ 1 ∷ 0 ∷ 0 ∷ 0 ∷ 0 ∷ 0 ∷ [])
    ++ (1 ∷ 1 ∷ 0 ∷ 0 ∷ 5 ∷ 0 ∷ 0 ∷ [])
    ++ (1 ∷ 0 ∷ 0 ∷ 0 ∷ 0 ∷ 0 ∷ 0 ∷ [])
    ++ (1 ∷ 1 ∷ 0 ∷ 0 ∷ 2 ∷ 0 ∷ 0 ∷ [])
    ++ (1 ∷ 1 ∷ 2 ∷ 0 ∷ [])
    ++ (0 ∷ 11 ∷ 1 ∷ 0 ∷ [])
    ++ (0 ∷ 12 ∷ 3 ∷ 0 ∷ [])
    ++ (3 ∷ 3 ∷ [])
    ++ (2 ∷ 3 ∷ 4 ∷ [])
    ++ (13 ∷ 1 ∷ 14 ∷ 2 ∷ 15 ∷ 3 ∷ [])
    ++ (0 ∷ 0 ∷ 0 ∷ 3 ∷ 0 ∷ 0 ∷ 2 ∷ 1 ∷ 0 ∷ 0 ∷ [])
    ++ (0 ∷ 0 ∷ 0 ∷ 0 ∷ 0 ∷ 3 ∷ [])

pub record Case : Type 0 where
  pub table : List ℕ
  pub gives : Verdict

abbrev case : List ℕ → Verdict → Case
case l v = record { table = l; gives = v }

-- the worked table with the word i changed to x
abbrev changed : ℕ → ℕ → Verdict → Case
changed i x v = case (set worked i x) v

abbrev recast : ℕ → ℕ → Verdict → Case
recast i x v = case (set cast i x) v

-- one type of a simple kind with its parameter b
abbrev dated : ℕ → ℕ → List ℕ
dated kind b = 1 ∷ 1 ∷ 0 ∷ 0 ∷ 1 ∷ 1 ∷ 0 ∷ 0 ∷ kind ∷ b ∷ 0 ∷ []

abbrev pub cases : List Case
cases =
    case worked right
    ∷ case [] (wrong 0)
    ∷ case (take 2 worked) (wrong 2)
    ∷ case (1 ∷ 0 ∷ []) (wrong 1)
    ∷ case (take 3 worked) (wrong 3)
    ∷ case (worked ++ (0 ∷ [])) (wrong 52)
    ∷ case (take 50 worked) (wrong 50)
    ∷ changed 0 3 (wrong 0)
    ∷ changed 1 257 (wrong 1)
    ∷ changed 3 5 (wrong 51)
    ∷ changed 3 1025 (wrong 3)
    ∷ changed 4 0 right
    ∷ changed 4 2 right
    ∷ changed 4 255 right
    ∷ changed 4 256 (wrong 4)
    ∷ changed 5 3 (wrong 5)
    ∷ changed 6 2 (wrong 6)
    ∷ changed 6 1 (wrong 7)
    ∷ changed 8 4 (wrong 8)
    ∷ changed 10 1 (wrong 10)
    ∷ changed 24 0xfffffffc (wrong 24)
    ∷ changed 24 0xfffffffd right
    ∷ changed 29 7 right
    ∷ changed 29 8 right
    ∷ changed 29 9 (wrong 29)
    ∷ changed 32 65536 (wrong 32)
    ∷ changed 33 2 (wrong 33)
    ∷ changed 34 0 (wrong 34)
    ∷ changed 34 4 (wrong 34)
    ∷ changed 35 4 (wrong 35)
    ∷ changed 36 0 (wrong 36)
    ∷ changed 37 4 (wrong 37)
    ∷ changed 38 1 (wrong 38)
    ∷ changed 41 4 (wrong 41)
    ∷ changed 45 4 (wrong 46)
    ∷ changed 46 0 (wrong 46)
    ∷ changed 46 65536 right
    ∷ changed 46 65537 (wrong 46)
    ∷ changed 50 1 (wrong 50)
    ∷ case (dated 7 0) right
    ∷ case (dated 9 0) (wrong 8)
    ∷ case (dated 7 1) (wrong 9)
    ∷ case cast right
    ∷ recast 0 3 (wrong 0)
    ∷ recast 51 4 (wrong 78)
    ∷ case (take 52 cast) (wrong 52)
    ∷ case (take 77 cast) (wrong 77)
    ∷ recast 0 1 (wrong 78)
    ∷ recast 53 5 (wrong 53)
    ∷ recast 57 5 (wrong 57)
    ∷ recast 62 4 (wrong 62)
    ∷ recast 65 4 (wrong 65)
    ∷ recast 54 1 (wrong 65)
    ∷ recast 54 2 (wrong 65)
    ∷ recast 72 1 (wrong 72)
    ∷ recast 77 4 (wrong 77)
    ∷ recast 4 0 right
    ∷ recast 5 3 (wrong 5)
    ∷ case (set (take 51 cast) 0 1) right
    ∷ []

pub verdicts : map (λ (c : Case). verdict c.table) cases ≡ map (λ (c : Case). c.gives) cases
unfolding verdict verdict_from header_words given row_words rows type_row front_words content_words empty_words simple_words particles_words kind_words range_words enumeration_words unused_words attribute_row attribute_words particle_row particle_words element_words group_words occurs_words first judge ◌then◌ count_words derived_words substitute_words among once words_from type_pair row_pair derived_row substitute_row type_pair_row row_pair_row cast_words form_words form_size length_right
verdicts = refl

pub record Worked (t : Table) : Type 0 where
  pub types : t.types ≡ 4
  pub contents : map t.content (0 ∷ 1 ∷ 2 ∷ 3 ∷ []) ≡ particles 0 ∷ simple 0 0 0 ∷ simple 1 0xfffffffd 4 ∷ simple 5 0 0 ∷ []
  pub rows : map t.row (0 ∷ 1 ∷ 2 ∷ 3 ∷ []) ≡ sequence 1 2 ∷ element 11 3 1 ∷ occurs 3 0 3 ∷ element 12 1 3 ∷ []
  pub attributes : t.attributes 0 ≡ record { name = 20; must = false; simple = 1; b = 0xfffffffd; c = 4 } ∷ []

pub worked-rows : Worked (table_of worked)
unfolding table_of content_of content_from row_of row_at row_from attributes_of attributes_from attribute_of first_of count_of
worked-rows = record { types = refl; contents = refl; rows = refl; attributes = refl }

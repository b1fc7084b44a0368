-- The page's examples, computed: m1, the first form, refusals of each number at their places; and written.
use Rattle.std.specs.Prelude.{ℕ, ◌≡◌, refl, List, [], ◌∷◌, set, replicate}
use Rattle.init.specs.Items.{byte_at, second_at, number_at, head_of, head_at, before, body, after, pass, rest_at, item_at, two, one, other, laid, words, bytes8, head_bytes}
use Rattle.init.specs.Plan.{types, codecs, schemas, formats, features, plan}
use Rattle.init.specs.Read.{on_item, store, read, ended, init_read}
use Rattle.init.specs.Read.Reading.{given, refused}
use Rattle.init.specs.Write.{value_of, content_of, lies_of, content, on_value, index, word_in, there_of, used_by, emit, write, closed, init_write}
use Rattle.init.specs.Write.{Writing as writing}
use Rattle.init.specs.Calls.{write_bytes}
use Rattle.wire.specs.Res.{guard, at_most, ◌>>=◌, ◌>>◌}

m1 : List ℕ
m1 = 0 ∷ 15 ∷ 1 ∷ 8 ∷ 1 ∷ 3 ∷ 97 ∷ 58 ∷ 98 ∷ 1 ∷ 104 ∷ 1 ∷ 2 ∷ 99 ∷ 100 ∷ 2 ∷ 5 ∷ 129 ∷ 0 ∷ 2 ∷ 1 ∷ 225 ∷ 3 ∷ 170 ∷ 187 ∷ 204 ∷ []

words1 : List ℕ
words1 = 0 ∷ 0 ∷ 0 ∷ 1 ∷ 4 ∷ 0 ∷ 1 ∷ 5 ∷ 20 ∷ 2 ∷ 23 ∷ 3 ∷ 6 ∷ 3 ∷ 10 ∷ 1 ∷ 1 ∷ 0 ∷ 0 ∷ 0 ∷ 0 ∷ 0 ∷ 0 ∷ 0 ∷ 0 ∷ 0 ∷ 0 ∷ 0 ∷ 0 ∷ 0 ∷ 0 ∷ 0 ∷ []

codecs1 : List ℕ
codecs1 = 13 ∷ 2 ∷ 2 ∷ 5 ∷ 128 ∷ []

m1-read : init_read m1 5 ≡ given words1 codecs1 26
unfolding byte_at second_at number_at head_of head_at before body after pass rest_at item_at two one other laid words types codecs schemas formats features plan on_item store read ended init_read guard at_most ◌>>=◌ ◌>>◌ m1 words1 codecs1
m1-read = refl

m1-written : init_write words1 codecs1 m1 26 ≡ writing.wrote 5 m1
unfolding head_of bytes8 head_bytes two types codecs schemas formats features plan value_of content_of lies_of content on_value index word_in there_of used_by emit write closed init_write m1 words1 codecs1
m1-written = refl

m1-room : init_read m1 4 ≡ refused 7 17
unfolding byte_at second_at number_at head_of head_at before body after pass rest_at item_at two one other laid words types codecs schemas formats features plan on_item store read ended init_read guard at_most ◌>>=◌ ◌>>◌ m1 words1 codecs1
m1-room = refl

first-form : init_read (0 ∷ 31 ∷ 1 ∷ 1 ∷ 117 ∷ 0 ∷ 0 ∷ 0 ∷ []) 0 ≡ given (0 ∷ 0 ∷ 0 ∷ 0 ∷ 0 ∷ 0 ∷ 1 ∷ 0 ∷ 0 ∷ 0 ∷ 8 ∷ 0 ∷ 4 ∷ 1 ∷ 6 ∷ 0 ∷ 0 ∷ 0 ∷ 0 ∷ 0 ∷ 0 ∷ 0 ∷ 0 ∷ 0 ∷ 0 ∷ 0 ∷ 0 ∷ 0 ∷ 0 ∷ 0 ∷ 0 ∷ 0 ∷ []) [] 8
unfolding byte_at second_at number_at head_of head_at before body after pass rest_at item_at two one other laid words types codecs schemas formats features plan on_item store read ended init_read guard at_most ◌>>=◌ ◌>>◌ m1 words1 codecs1
first-form = refl

two-schemas : init_read (129 ∷ 0 ∷ 95 ∷ 2 ∷ 1 ∷ 117 ∷ 0 ∷ 0 ∷ 2 ∷ 118 ∷ 119 ∷ 0 ∷ 0 ∷ 0 ∷ []) 0 ≡ given (0 ∷ 128 ∷ 2 ∷ 0 ∷ 0 ∷ 0 ∷ 2 ∷ 0 ∷ 0 ∷ 0 ∷ 14 ∷ 0 ∷ 5 ∷ 1 ∷ 7 ∷ 0 ∷ 0 ∷ 9 ∷ 2 ∷ 12 ∷ 0 ∷ 0 ∷ 0 ∷ 0 ∷ 0 ∷ 0 ∷ 0 ∷ 0 ∷ 0 ∷ 0 ∷ 0 ∷ 0 ∷ []) [] 14
unfolding byte_at second_at number_at head_of head_at before body after pass rest_at item_at two one other laid words types codecs schemas formats features plan on_item store read ended init_read guard at_most ◌>>=◌ ◌>>◌ m1 words1 codecs1
two-schemas = refl

stepped : init_read (0 ∷ 15 ∷ 2 ∷ 9 ∷ 255 ∷ 1 ∷ 1 ∷ 117 ∷ 0 ∷ 0 ∷ 0 ∷ 0 ∷ []) 0 ≡ given (0 ∷ 0 ∷ 0 ∷ 9 ∷ 4 ∷ 1 ∷ 1 ∷ 0 ∷ 11 ∷ 0 ∷ 12 ∷ 0 ∷ 7 ∷ 1 ∷ 9 ∷ 0 ∷ 0 ∷ 0 ∷ 0 ∷ 0 ∷ 0 ∷ 0 ∷ 0 ∷ 0 ∷ 0 ∷ 0 ∷ 0 ∷ 0 ∷ 0 ∷ 0 ∷ 0 ∷ 0 ∷ []) [] 12
unfolding byte_at second_at number_at head_of head_at before body after pass rest_at item_at two one other laid words types codecs schemas formats features plan on_item store read ended init_read guard at_most ◌>>=◌ ◌>>◌ m1 words1 codecs1
stepped = refl

empty : init_read ([]) 0 ≡ refused 5 0
unfolding byte_at second_at number_at head_of head_at before body after pass rest_at item_at two one other laid words types codecs schemas formats features plan on_item store read ended init_read guard at_most ◌>>=◌ ◌>>◌ m1 words1 codecs1
empty = refl

short-unit : init_read (0 ∷ []) 0 ≡ refused 5 1
unfolding byte_at second_at number_at head_of head_at before body after pass rest_at item_at two one other laid words types codecs schemas formats features plan on_item store read ended init_read guard at_most ◌>>=◌ ◌>>◌ m1 words1 codecs1
short-unit = refl

short-uri : init_read (0 ∷ 31 ∷ 1 ∷ 5 ∷ 117 ∷ 0 ∷ []) 0 ≡ refused 5 3
unfolding byte_at second_at number_at head_of head_at before body after pass rest_at item_at two one other laid words types codecs schemas formats features plan on_item store read ended init_read guard at_most ◌>>=◌ ◌>>◌ m1 words1 codecs1
short-uri = refl

long-form : init_read (128 ∷ 5 ∷ 31 ∷ []) 0 ≡ refused 12 0
unfolding byte_at second_at number_at head_of head_at before body after pass rest_at item_at two one other laid words types codecs schemas formats features plan on_item store read ended init_read guard at_most ◌>>=◌ ◌>>◌ m1 words1 codecs1
long-form = refl

large : init_read (0 ∷ 31 ∷ 129 ∷ 128 ∷ 0 ∷ []) 0 ≡ refused 13 2
unfolding byte_at second_at number_at head_of head_at before body after pass rest_at item_at two one other laid words types codecs schemas formats features plan on_item store read ended init_read guard at_most ◌>>=◌ ◌>>◌ m1 words1 codecs1
large = refl

unit-reserved : init_read (0 ∷ 255 ∷ 1 ∷ 1 ∷ 117 ∷ 0 ∷ 0 ∷ 0 ∷ []) 0 ≡ refused 14 1
unfolding byte_at second_at number_at head_of head_at before body after pass rest_at item_at two one other laid words types codecs schemas formats features plan on_item store read ended init_read guard at_most ◌>>=◌ ◌>>◌ m1 words1 codecs1
unit-reserved = refl

no-flag-bytes : init_read (0 ∷ 15 ∷ 0 ∷ 1 ∷ []) 0 ≡ refused 14 2
unfolding byte_at second_at number_at head_of head_at before body after pass rest_at item_at two one other laid words types codecs schemas formats features plan on_item store read ended init_read guard at_most ◌>>=◌ ◌>>◌ m1 words1 codecs1
no-flag-bytes = refl

empty-uri : init_read (0 ∷ 31 ∷ 1 ∷ 0 ∷ 0 ∷ 0 ∷ 0 ∷ []) 0 ≡ refused 14 3
unfolding byte_at second_at number_at head_of head_at before body after pass rest_at item_at two one other laid words types codecs schemas formats features plan on_item store read ended init_read guard at_most ◌>>=◌ ◌>>◌ m1 words1 codecs1
empty-uri = refl

left : init_read (0 ∷ 31 ∷ 1 ∷ 1 ∷ 117 ∷ 0 ∷ 0 ∷ 0 ∷ 0 ∷ []) 0 ≡ refused 17 8
unfolding byte_at second_at number_at head_of head_at before body after pass rest_at item_at two one other laid words types codecs schemas formats features plan on_item store read ended init_read guard at_most ◌>>=◌ ◌>>◌ m1 words1 codecs1
left = refl

reserved : init_read (0 ∷ 23 ∷ 1 ∷ []) 0 ≡ refused 28 1
unfolding byte_at second_at number_at head_of head_at before body after pass rest_at item_at two one other laid words types codecs schemas formats features plan on_item store read ended init_read guard at_most ◌>>=◌ ◌>>◌ m1 words1 codecs1
reserved = refl

reserved-first : init_read (0 ∷ 247 ∷ []) 0 ≡ refused 28 1
unfolding byte_at second_at number_at head_of head_at before body after pass rest_at item_at two one other laid words types codecs schemas formats features plan on_item store read ended init_read guard at_most ◌>>=◌ ◌>>◌ m1 words1 codecs1
reserved-first = refl

no-schemas : init_read (0 ∷ 31 ∷ 0 ∷ 0 ∷ []) 0 ≡ refused 29 2
unfolding byte_at second_at number_at head_of head_at before body after pass rest_at item_at two one other laid words types codecs schemas formats features plan on_item store read ended init_read guard at_most ◌>>=◌ ◌>>◌ m1 words1 codecs1
no-schemas = refl

many-schemas : init_read (0 ∷ 31 ∷ 5 ∷ 1 ∷ 117 ∷ []) 0 ≡ refused 30 2
unfolding byte_at second_at number_at head_of head_at before body after pass rest_at item_at two one other laid words types codecs schemas formats features plan on_item store read ended init_read guard at_most ◌>>=◌ ◌>>◌ m1 words1 codecs1
many-schemas = refl

advanced : init_read (0 ∷ 15 ∷ 1 ∷ 64 ∷ 1 ∷ 32 ∷ []) 0 ≡ refused 34 3
unfolding byte_at second_at number_at head_of head_at before body after pass rest_at item_at two one other laid words types codecs schemas formats features plan on_item store read ended init_read guard at_most ◌>>=◌ ◌>>◌ m1 words1 codecs1
advanced = refl

updates : init_read (0 ∷ 15 ∷ 1 ∷ 16 ∷ 1 ∷ 32 ∷ []) 0 ≡ refused 34 3
unfolding byte_at second_at number_at head_of head_at before body after pass rest_at item_at two one other laid words types codecs schemas formats features plan on_item store read ended init_read guard at_most ◌>>=◌ ◌>>◌ m1 words1 codecs1
updates = refl

flags-missing : init_read (0 ∷ 15 ∷ 2 ∷ 64 ∷ []) 0 ≡ refused 5 3
unfolding byte_at second_at number_at head_of head_at before body after pass rest_at item_at two one other laid words types codecs schemas formats features plan on_item store read ended init_read guard at_most ◌>>=◌ ◌>>◌ m1 words1 codecs1
flags-missing = refl

word-1-16384 : init_write (set words1 1 16384) (codecs1) m1 26 ≡ writing.refused 20 1
unfolding head_of bytes8 head_bytes two types codecs schemas formats features plan value_of content_of lies_of content on_value index word_in there_of used_by emit write closed init_write m1 words1 codecs1
word-1-16384 = refl

word-2-7 : init_write (set words1 2 7) (codecs1) m1 26 ≡ writing.refused 20 2
unfolding head_of bytes8 head_bytes two types codecs schemas formats features plan value_of content_of lies_of content on_value index word_in there_of used_by emit write closed init_write m1 words1 codecs1
word-2-7 = refl

word-3-2 : init_write (set words1 3 2) (codecs1) m1 26 ≡ writing.refused 20 3
unfolding head_of bytes8 head_bytes two types codecs schemas formats features plan value_of content_of lies_of content on_value index word_in there_of used_by emit write closed init_write m1 words1 codecs1
word-3-2 = refl

word-3-0 : init_write (set words1 3 0) (codecs1) m1 26 ≡ writing.refused 20 4
unfolding head_of bytes8 head_bytes two types codecs schemas formats features plan value_of content_of lies_of content on_value index word_in there_of used_by emit write closed init_write m1 words1 codecs1
word-3-0 = refl

word-5-1 : init_write (set words1 5 1) (codecs1) m1 26 ≡ writing.refused 20 5
unfolding head_of bytes8 head_bytes two types codecs schemas formats features plan value_of content_of lies_of content on_value index word_in there_of used_by emit write closed init_write m1 words1 codecs1
word-5-1 = refl

word-13-0 : init_write (set words1 13 0) (codecs1) m1 26 ≡ writing.refused 20 13
unfolding head_of bytes8 head_bytes two types codecs schemas formats features plan value_of content_of lies_of content on_value index word_in there_of used_by emit write closed init_write m1 words1 codecs1
word-13-0 = refl

word-9-256 : init_write (set words1 9 256) (codecs1) m1 26 ≡ writing.refused 20 9
unfolding head_of bytes8 head_bytes two types codecs schemas formats features plan value_of content_of lies_of content on_value index word_in there_of used_by emit write closed init_write m1 words1 codecs1
word-9-256 = refl

word-4-36 : init_write (set words1 4 36) (codecs1) m1 26 ≡ writing.refused 34 4
unfolding head_of bytes8 head_bytes two types codecs schemas formats features plan value_of content_of lies_of content on_value index word_in there_of used_by emit write closed init_write m1 words1 codecs1
word-4-36 = refl

word-6-0 : init_write (set words1 6 0) (codecs1) m1 26 ≡ writing.refused 29 6
unfolding head_of bytes8 head_bytes two types codecs schemas formats features plan value_of content_of lies_of content on_value index word_in there_of used_by emit write closed init_write m1 words1 codecs1
word-6-0 = refl

word-6-5 : init_write (set words1 6 5) (codecs1) m1 26 ≡ writing.refused 30 6
unfolding head_of bytes8 head_bytes two types codecs schemas formats features plan value_of content_of lies_of content on_value index word_in there_of used_by emit write closed init_write m1 words1 codecs1
word-6-5 = refl

word-12-24 : init_write (set words1 12 24) (codecs1) m1 26 ≡ writing.refused 23 13
unfolding head_of bytes8 head_bytes two types codecs schemas formats features plan value_of content_of lies_of content on_value index word_in there_of used_by emit write closed init_write m1 words1 codecs1
word-12-24 = refl

word-4-0 : init_write (set words1 4 0) (codecs1) m1 26 ≡ writing.refused 20 9
unfolding head_of bytes8 head_bytes two types codecs schemas formats features plan value_of content_of lies_of content on_value index word_in there_of used_by emit write closed init_write m1 words1 codecs1
word-4-0 = refl

word-16-2 : init_write (set words1 16 2) (codecs1) m1 26 ≡ writing.refused 18 37
unfolding head_of bytes8 head_bytes two types codecs schemas formats features plan value_of content_of lies_of content on_value index word_in there_of used_by emit write closed init_write m1 words1 codecs1
word-16-2 = refl

word-16-0 : init_write (set words1 16 0) (codecs1) m1 26 ≡ writing.refused 18 32
unfolding head_of bytes8 head_bytes two types codecs schemas formats features plan value_of content_of lies_of content on_value index word_in there_of used_by emit write closed init_write m1 words1 codecs1
word-16-0 = refl

word-7-6 : init_write (set words1 7 6) (codecs1) m1 26 ≡ writing.refused 18 7
unfolding head_of bytes8 head_bytes two types codecs schemas formats features plan value_of content_of lies_of content on_value index word_in there_of used_by emit write closed init_write m1 words1 codecs1
word-7-6 = refl

codec-type : init_write (words1) (set codecs1 4 16384) m1 26 ≡ writing.refused 20 36
unfolding head_of bytes8 head_bytes two types codecs schemas formats features plan value_of content_of lies_of content on_value index word_in there_of used_by emit write closed init_write m1 words1 codecs1
codec-type = refl

no-room : init_write (words1) (codecs1) m1 25 ≡ writing.refused 21 0
unfolding head_of bytes8 head_bytes two types codecs schemas formats features plan value_of content_of lies_of content on_value index word_in there_of used_by emit write closed init_write m1 words1 codecs1
no-room = refl

first-stepped : init_write (0 ∷ 0 ∷ 0 ∷ 9 ∷ 4 ∷ 1 ∷ 1 ∷ 0 ∷ 11 ∷ 0 ∷ 12 ∷ 0 ∷ 7 ∷ 1 ∷ 9 ∷ 0 ∷ 0 ∷ 0 ∷ 0 ∷ 0 ∷ 0 ∷ 0 ∷ 0 ∷ 0 ∷ 0 ∷ 0 ∷ 0 ∷ 0 ∷ 0 ∷ 0 ∷ 0 ∷ 0 ∷ []) [] (0 ∷ 15 ∷ 2 ∷ 9 ∷ 255 ∷ 1 ∷ 1 ∷ 117 ∷ 0 ∷ 0 ∷ 0 ∷ 0 ∷ []) 12 ≡ writing.refused 20 5
unfolding head_of bytes8 head_bytes two types codecs schemas formats features plan value_of content_of lies_of content on_value index word_in there_of used_by emit write closed init_write m1 words1 codecs1
first-stepped = refl

short-init : write_bytes (replicate 124 0) [] m1 26 ≡ writing.refused 18 0
unfolding write_bytes
short-init = refl

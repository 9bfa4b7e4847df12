-- The words of an image. Document 01, 'Images and feeds'. Cited by contracts and theorems.
use Rattle.std.specs.Prelude.{ℕ, zero, suc, ◌+◌, ◌*◌, ◌/◌, ◌%◌, ◌^◌, Bool, cond, List, [], ◌∷◌, ◌++◌, eqb, length, take, drop, replicate}
use Rattle.group.specs.declared.Group.{Group}
use Rattle.group.specs.Group.{read}
use Rattle.group_codes.specs.Pack.{packed}
use Rattle.geometry.specs.Geometry.{largest_log, stride}
use Rattle.meter_memory.specs.Rows.{group_at}
use Rattle.word.specs.Word.{head_kind, end_kind}

-- the top four bits of a word are its kind and the low 28 its payload
unfoldable pub word : ℕ → ℕ → ℕ
word kind payload = kind * 2 ^ 28 + payload

abbrev pub layout_kind : ℕ
layout_kind = 2

abbrev pub count_kind : ℕ
count_kind = 3

-- log2 w: the k below n with 2 ^ k = w, or 0 if there is none
unfoldable pub log_from : ℕ → ℕ → ℕ
log_from zero w = 0
log_from (suc k) w = cond (eqb (2 ^ k) w) k (log_from k w)

-- the logarithm of a width: the k with 2 ^ k = w
unfoldable pub log_width : ℕ → ℕ
log_width w = log_from (largest_log + 1) w

-- the head's payload: d in the low four bits, log2 w in the next five
unfoldable pub head_payload : ℕ → ℕ → ℕ
head_payload d w = log_width w * 16 + d

-- A counter of a level holds 8 × 2 ^ level bits, and a word 24 of them.
unfoldable pub word_count : ℕ → ℕ
word_count level = (8 * 2 ^ level + 23) / 24

-- the n words of a counter's value, high part first
unfoldable pub parts : ℕ → ℕ → List ℕ
parts zero v = []
parts (suc n) v = word count_kind (v / 2 ^ (24 * n) % 2 ^ 24) ∷ parts n v

-- the level of the counter that slot k is in, in a group with this merge byte
unfoldable pub level_at : ℕ → ℕ → ℕ
level_at merge k = (read (record { counts = replicate 8 0; merge = merge }) k).level

-- whether slot k is the first of its counter: a counter of level n starts at a multiple of 2 ^ n
unfoldable pub is_first : ℕ → ℕ → Bool
is_first merge k = eqb (k % 2 ^ level_at merge k) 0

-- the words of the counter that starts at slot k, if one does
unfoldable pub slot_words : Group → ℕ → List ℕ
slot_words g k = cond (is_first g.merge k) (parts (word_count (level_at g.merge k)) (read g k).value) []

-- the counters of n slots in slot order, the first of which is slot k
unfoldable pub slots_words : ℕ → ℕ → Group → List ℕ
slots_words zero k g = []
slots_words (suc n) k g = slot_words g k ++ slots_words n (k + 1) g

unfoldable pub group_words : Group → List ℕ
group_words g = slots_words 8 0 g

-- the counters of n groups of a row of w slots, the first of which is group g
unfoldable pub groups_words : ℕ → ℕ → ℕ → List ℕ → List ℕ
groups_words zero g w row = []
groups_words (suc n) g w row = group_words (group_at w row g) ++ groups_words n (g + 1) w row

-- the code of the layout of 32 slots, which are four groups, the first of which is group g
unfoldable pub layout_at : ℕ → List ℕ → ℕ → ℕ
layout_at w row g =
    (packed (group_at w row g).merge (group_at w row (g + 1)).merge (group_at w row (g + 2)).merge (group_at w row (g + 3)).merge).value

-- 32 slots: a layout word and the counters
unfoldable pub four_words : ℕ → List ℕ → ℕ → List ℕ
four_words w row g = word layout_kind (layout_at w row g) ∷ groups_words 4 g w row

-- n times 32 slots of a row, from group g on
unfoldable pub row_words : ℕ → ℕ → ℕ → List ℕ → List ℕ
row_words zero g w row = []
row_words (suc n) g w row = four_words w row g ++ row_words n (g + 4) w row

-- n rows
unfoldable pub rows_words : ℕ → ℕ → List ℕ → List ℕ
rows_words zero w memory = []
rows_words (suc n) w memory = row_words (w / 32) 0 w (take (stride w) memory) ++ rows_words n w (drop (stride w) memory)

-- the words before the end
unfoldable pub body : ℕ → ℕ → List ℕ → List ℕ
body d w memory = word head_kind (head_payload d w) ∷ rows_words d w memory

-- the end: the number of words before it
unfoldable pub end_word : ℕ → ℕ
end_word n = word end_kind (n % 2 ^ 28)

unfoldable pub image : ℕ → ℕ → List ℕ → List ℕ
image d w memory = body d w memory ++ end_word (length (body d w memory)) ∷ []

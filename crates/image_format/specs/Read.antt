-- Reading an image. Document 01, 'Images and feeds' and 'Turned away, in checking order'. Cited by contracts and theorems.
use Rattle.std.specs.Prelude.{ℕ, zero, suc, ◌+◌, ◌-◌, ◌*◌, ◌/◌, ◌%◌, ◌^◌, cond, List, [], ◌∷◌, ◌++◌, eqb, length, take, drop, replicate}
use Rattle.group.specs.declared.Group.{Group}
use Rattle.answer.specs.declared.Answer.{Answer}
use Rattle.answer.specs.Answers.{accepted, refused, refused_at, leaves, Done}
use Rattle.answer.specs.Numbers.{bad_payload, bad_word, other_meter}
use Rattle.group.specs.Group.{changed}
use Rattle.group_codes.specs.Pack.{layouts_of, unpacked}
use Rattle.geometry.specs.Geometry.{stride}
use Rattle.geometry.specs.Checks.{bad_shape}
use Rattle.meter_memory.specs.Rows.{with_group}
use Rattle.word.specs.Word.{head_kind, end_kind, go, stop, next, payload, tested, below}
use Rattle.image_format.specs.Image.{layout_kind, count_kind, head_payload, word_count, level_at, is_first}
use Rattle.image_format.specs.Write.{slot_size, group_size}
use Rattle.word.specs.Step.{Step}

-- The head's bits 9 to 27 are 0; then 10.
unfoldable pub check_head : ℕ → ℕ → List ℕ → Step
check_head d w words =
    next (below words 0 head_kind (2 ^ 9)) (λ p. tested words 0 head_kind (eqb (payload words 0) (head_payload d w)) other_meter)

-- The words of a counter have 24 bits. The value fits its level if the first word has at most the bits that the others leave.
unfoldable pub first_bits : ℕ → ℕ
first_bits level = 8 * 2 ^ level - 24 * (word_count level - 1)

unfoldable pub check_parts : ℕ → List ℕ → ℕ → ℕ → Step
check_parts zero words p limit = go p
check_parts (suc n) words p limit = next (below words p count_kind limit) (λ q. check_parts n words q (2 ^ 24))

unfoldable pub check_slot : ℕ → ℕ → List ℕ → ℕ → Step
check_slot merge k words p =
    cond (is_first merge k) (check_parts (word_count (level_at merge k)) words p (2 ^ first_bits (level_at merge k))) (go p)

unfoldable pub check_slots : ℕ → ℕ → ℕ → List ℕ → ℕ → Step
check_slots zero k merge words p = go p
check_slots (suc n) k merge words p = next (check_slot merge k words p) (λ q. check_slots n (k + 1) merge words q)

-- the counters of groups with these merge bytes
unfoldable pub check_groups : List ℕ → List ℕ → ℕ → Step
check_groups [] words p = go p
check_groups (m ∷ ms) words p = next (check_slots 8 0 m words p) (λ q. check_groups ms words q)

-- the merge bytes of the four groups whose layout word is at a position
unfoldable pub merges_at : List ℕ → ℕ → List ℕ
merges_at words p = (unpacked (payload words p)).merges

-- 32 slots: a layout word whose code is one, and the counters; and n times 32 slots
unfoldable pub check_four : List ℕ → ℕ → Step
check_four words p = next (below words p layout_kind (layouts_of 4)) (λ q. check_groups (merges_at words p) words q)

unfoldable pub check_fours : ℕ → List ℕ → ℕ → Step
check_fours zero words p = go p
check_fours (suc n) words p = next (check_four words p) (λ q. check_fours n words q)

-- the end has the number of words before it, and no word after it
unfoldable pub check_end : List ℕ → ℕ → Step
check_end words p =
    next (tested words p end_kind (eqb (payload words p) (p % 2 ^ 28)) bad_payload)
    (λ q. cond (eqb (length words) q) (go q) (stop bad_word q))

-- an image of d rows, each w / 32 times 32 slots
unfoldable pub checked : ℕ → ℕ → List ℕ → Step
checked d w words = next (check_head d w words) (λ p. next (check_fours (d * (w / 32)) words p) (λ q. check_end words q))

-- The value of a counter's n words after a high part v. No value of a checked counter has more than 64 bits.
unfoldable pub value_from : ℕ → ℕ → List ℕ → ℕ → ℕ
value_from zero v words p = v
value_from (suc n) v words p = value_from n (v % 2 ^ 40 * 2 ^ 24 + payload words p % 2 ^ 24) words (p + 1)

-- the group with the counter that starts at slot k, if one does, from the words at a position
unfoldable pub read_slot : ℕ → Group → List ℕ → ℕ → Group
read_slot k g words p =
    cond (is_first g.merge k) (changed g k (value_from (word_count (level_at g.merge k)) 0 words p)).group g

unfoldable pub read_slots : ℕ → ℕ → Group → List ℕ → ℕ → Group
read_slots zero k g words p = g
read_slots (suc n) k g words p = read_slots n (k + 1) (read_slot k g words p) words (p + slot_size g.merge k)

unfoldable pub read_group : ℕ → List ℕ → ℕ → Group
read_group merge words p = read_slots 8 0 (record { counts = replicate 8 0; merge = merge }) words p

-- a row of w slots with groups of these merge bytes, from group g on, from the words at a position
unfoldable pub read_groups : List ℕ → ℕ → ℕ → List ℕ → List ℕ → ℕ → List ℕ
read_groups [] g w row words p = row
read_groups (m ∷ ms) g w row words p = read_groups ms (g + 1) w (with_group w row g (read_group m words p)) words (p + group_size m)

-- the position after such groups, and after n times 32 slots
unfoldable pub after_groups : List ℕ → ℕ → ℕ
after_groups [] p = p
after_groups (m ∷ ms) p = after_groups ms (p + group_size m)

unfoldable pub after_fours : ℕ → List ℕ → ℕ → ℕ
after_fours zero words p = p
after_fours (suc n) words p = after_fours n words (after_groups (merges_at words p) (p + 1))

-- n times 32 slots of a row, from group g on
unfoldable pub read_fours : ℕ → ℕ → ℕ → List ℕ → List ℕ → ℕ → List ℕ
read_fours zero g w row words p = row
read_fours (suc n) g w row words p =
    read_fours n (g + 4) w (read_groups (merges_at words p) g w row words (p + 1)) words (after_groups (merges_at words p) (p + 1))

-- n rows
unfoldable pub read_rows : ℕ → ℕ → List ℕ → List ℕ → ℕ → List ℕ
read_rows zero w memory words p = memory
read_rows (suc n) w memory words p =
    read_fours (w / 32) 0 w (take (stride w) memory) words p ++ read_rows n w (drop (stride w) memory) words (after_fours (w / 32) words p)

-- The call's own d, w and memory come before the words. Of an accepted image the position after the end is the count of its words.
unfoldable pub read_answer : ℕ → Step → Answer
read_answer zero s = cond (eqb s.status 0) (accepted s.position) (refused_at s.status s.position)
read_answer (suc bad) s = refused (suc bad)

unfoldable pub finish_read : Answer → List ℕ → List ℕ → Done
finish_read answer new memory = record { answer = answer; memory = leaves answer.status new memory }

unfoldable pub taken : ℕ → ℕ → List ℕ → List ℕ → Done
taken d w memory words = finish_read (read_answer (bad_shape d w (length memory)) (checked d w words)) (read_rows d w memory words 1) memory

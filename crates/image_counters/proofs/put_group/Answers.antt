use mathlib.Core.Path.{◌≡◌, refl, sym, ap, ◌∙◌}
use mathlib.Core.Bool.{true}
use mathlib.Core.List.{List}
use Prim.Native.Nat.{ℕ, ◌+◌, ◌-◌, ◌≤◌}
use native.Mathlib.Omega.{arith}
use lib.Pow.{pow_pos}
use lib.Seq.{sets}
use Rattle.group.specs.declared.Group.{Group}
use Rattle.group.specs.Group.{read}
use Rattle.image_format.specs.Image.{parts, level_at, is_first, slot_words, slots_words, group_words}
use Rattle.image_format.specs.Write.{slot_size, slots_size, group_size}
use Rattle.image_format.proofs.Laws.{size_first, sizes_none, slot_some}
use Rattle.image_format.proofs.Sizes.{read_level, first_zero, level_at_le, behind_is}
use Rattle.image_format.proofs.Counters.{counter_end, next_first, sizes_turn}
use Rattle.image_size.proofs.Laws.{slot_length}
use Rattle.image_counters.proofs.Laws.{put_turn, slots_none, words_turn}
use Rattle.image_counters.proofs.put_group.Goals.{then-k-next, else-k-next}
use Rattle.image_counters.proofs.put_group.Goals as goal

pub loop-k-init : goal.loop-k-init
unfolding group_size group_words
loop-k-init c = (omega arith, omega arith, λ h. first_zero c.args.g.merge, refl, refl, refl)

pub word_count-requires : goal.word_count-requires
word_count-requires c = rw (c.counter_at-c.ensures.1 ∙ read_level c.args.g c.loop-k.k) (level_at_le c.args.g.merge c.loop-k.k)

pub put_parts-at-requires-clause-fact_1 : goal.put_parts-at-requires-clause-fact_1
put_parts-at-requires-clause-fact_1 c = let l = c.loop-k in
    let m = c.args.g.merge in
    let e : l.k ≡ l.next = c.if-k-next.true in
    let f : is_first m l.k ≡ true = rw e (l.invariant.2 (omega arith)) in
    let s : l.at + slots_size (8 - l.k) l.k m ≡ c.args.p + group_size m = rw e l.invariant.3 in
    omega (arith, s, sizes_turn l.k m c.loop-k-test.true f, size_first m l.k c.counter_at-c.result.level c.word_count.result (c.counter_at-c.ensures.1 ∙ read_level c.args.g l.k) f c.word_count.ensures.value)

pub overflow_shl-next : goal.overflow_shl-next
overflow_shl-next c = rw (c.counter_at-c.ensures.1 ∙ read_level c.args.g c.loop-k.k) (omega (arith, level_at_le c.args.g.merge c.loop-k.k))

pub overflow_add-next : goal.overflow_add-next
overflow_add-next c = let l = c.loop-k in
    let m = c.args.g.merge in
    let e : l.k ≡ l.next = c.if-k-next.true in
    let f : is_first m l.k ≡ true = rw e (l.invariant.2 (omega arith)) in
    rw (behind_is m l.k c.counter_at-c.result.level (c.counter_at-c.ensures.1 ∙ read_level c.args.g l.k)) (omega (arith, counter_end m l.k c.loop-k-test.true f))

pub loop-k-preserved : goal.loop-k-preserved
loop-k-preserved c = let l = c.loop-k in
    let g = c.args.g in
    let m = c.args.g.merge in
    let h = c.loop-k-test.true in
    elim c.if-k-next.branch [
      | then-k-next w ↦
          let i : l.k ≡ l.next = w.if-k-next.true in
          let f : is_first m l.k ≡ true = rw i (l.invariant.2 (omega arith)) in
          let r = w.counter_at-c in
          let n = w.word_count in
          let s = w.put_parts-at in
          let e : r.result.level ≡ level_at m l.k = r.ensures.1 ∙ read_level g l.k in
          let z : n.result ≡ slot_size m l.k = size_first m l.k r.result.level n.result e f n.ensures.value in
          let x : s.result ≡ l.at + slot_size m l.k = s.ensures.value ∙ ap (λ (j : ℕ). l.at + j) z in
          let size : l.at + slots_size (8 - l.k) l.k m ≡ c.args.p + group_size m = rw i l.invariant.3 in
          let words : sets l.words l.at (slots_words (8 - l.k) l.k g) ≡ sets c.args.words.now c.args.p (group_words g) = rw i l.invariant.5 in
          rw (w.words-is, w.at-is, w.next-is, behind_is m l.k r.result.level e) (
            omega (arith, pow_pos (level_at m l.k)),
            counter_end m l.k h f,
            next_first m l.k h f,
            omega (arith, sizes_turn l.k m h f, x, size),
            omega arith,
            put_turn l.words _ l.at s.result (slot_words g l.k) _ (s.ensures.words_after ∙ ap (λ (v : ℕ). sets l.words l.at (parts n.result v)) r.ensures.0 ∙ ap (sets l.words l.at) (slot_some g l.k r.result.level n.result (read g l.k) e f n.ensures.value refl))
                (x ∙ ap (λ (j : ℕ). l.at + j) (sym (slot_length g l.k)))
                ∙ ap (sets l.words l.at) (sym (words_turn l.k g h f)) ∙ words,
          )
      | else-k-next w ↦ rw (w.words-is, w.at-is, w.next-is) (omega (arith, w.if-k-next.false), l.invariant.1, l.invariant.2, l.invariant.3, l.invariant.4, l.invariant.5)
    ]

-- where no counter is left, all words are written
all_put : (next at : ℕ) (words whole : List ℕ) (g : Group) → 8 ≤ next → sets words at (slots_words (8 - next) next g) ≡ whole → words ≡ whole
all_put next at words whole g h e = sym (ap (sets words at) (slots_none (8 - next) next g (omega arith))) ∙ e

pub returns-then-next-eq8-clause-value : goal.returns-then-next-eq8-clause-value
returns-then-next-eq8-clause-value c = let l = c.loop-k in
    omega (arith, sizes_none (8 - l.next) l.next c.args.g.merge (omega arith))

pub returns-then-next-eq8-clause-words_after : goal.returns-then-next-eq8-clause-words_after
returns-then-next-eq8-clause-words_after c = let l = c.loop-k in
    all_put l.next l.at l.words _ c.args.g (omega arith) l.invariant.5

pub returns-clause-value : goal.returns-clause-value
returns-clause-value c = let l = c.loop-k in
    omega (arith, sizes_none (8 - l.next) l.next c.args.g.merge (omega arith))

pub returns-clause-words_after : goal.returns-clause-words_after
returns-clause-words_after c = let l = c.loop-k in
    all_put l.next l.at l.words _ c.args.g (omega arith) l.invariant.5

-- Words are accepted if and only if they are the image of a meter of that depth and width. What an accepted write wrote, read back,
-- restores the meter byte for byte. A refused place is sharp. A sound head with another depth or width is 10, also with one that no
-- meter has.
use mathlib.Core.Logic.{◌⊎◌, inl, inr, ⊎_elim, ◌↔◌}
use mathlib.Core.Path.{◌≡◌, refl, sym, ap, ap₂, subst, ◌∙◌}
use mathlib.Core.Bool.{true, cond}
use mathlib.Core.List.{List, [], ◌∷◌, ◌++◌}
use Prim.Native.Nat.{ℕ, suc, ◌+◌, ◌-◌, ◌*◌, ◌/◌, ◌%◌, ◌^◌, ◌≤◌, ◌<◌}
use native.Mathlib.Decide.{dec_lt}
use native.Mathlib.Omega.{arith}
use borrow.Author.Tests.{eq-eqb, ne_eqb, eqb-true, eqb-false}
use borrow.Table.Steps.{cases}
use lib.Dec.{eqb}
use lib.ListN.{length, take, drop, length-drop, length-append, drop_of_length-le}
use lib.Seq.{take-append_seam}
use Rattle.laws.proofs.Lists.{Bytes}
use Rattle.answer.specs.Answers.{accepted, refused, Done}
use Rattle.answer.specs.Numbers.{bad_payload, bad_word, other_meter}
use Rattle.geometry.specs.Geometry.{largest_log}
use Rattle.geometry.specs.Checks.{bad_shape}
use Rattle.word.specs.Step.{Step}
use Rattle.word.specs.Word.{head_kind, end_kind, go, stop, next, payload, tested, below}
use Rattle.image_format.specs.Image.{word, head_payload, rows_words, body, end_word, image}
use Rattle.image_format.specs.Write.{valid_rows, Written, written}
use Rattle.image_format.specs.Read.{check_head, check_fours, check_end, checked, read_rows, taken}
use Rattle.image_laws.specs.Meters.{Meter, IsImage}
use Rattle.image.proofs.Calls.{Sound, sound_call, write_call, write_invalid, write_short, write_done, read_call, read_faulty, read_done}
use Rattle.image_format.proofs.Laws.{log_width_most}
use Rattle.image_group_checker.proofs.Digits.{payload_here, due_here, below_here}
use Rattle.word.proofs.Passed.{passed, tested_is}
use Rattle.image_laws.proofs.Exact.{rows_are}
use Rattle.image.proofs.Sharp.{sharp_at}
use Rattle.image_laws.proofs.Rows.{Rows, after_rows, rows_restored}

head_lt : (d w : ℕ) → d ≤ 8 → head_payload d w < 2 ^ 9
unfolding head_payload
head_lt d w h = omega (arith, log_width_most w)

module _ (d w : ℕ) (memory old : List ℕ) (call : bad_shape d w (length memory) ≡ 0) (bytes : Bytes memory) (merges : valid_rows d w memory ≡ true) (long : length old ≡ length memory) where
  sound : Sound d w (length memory)
  sound = sound_call d w (length memory) call

  all_words : List ℕ
  all_words = image d w memory

  end_words_lem : List ℕ
  end_words_lem = end_word (length (body d w memory)) ∷ []

  rows : Rows d w memory old all_words 1 end_words_lem
  unfolding all_words end_words_lem image body
  rows = rows_restored d w memory old (image d w memory) 1 end_words_lem (record { whole = sound.width.whole; size = sound.long; bytes = bytes; merges = merges }) long refl

  head_passes : check_head d w all_words ≡ go 1
  unfolding all_words end_words_lem image body check_head tested next
  head_passes =
      let h = head_lt d w sound.depth in
      let hp = head_payload d w in
      let tail = rows_words d w memory ++ end_words_lem in
      rw (below_here all_words 0 head_kind hp tail refl (omega (arith, h)) (2 ^ 9) h, due_here all_words 0 head_kind hp tail refl (omega (arith, h)), payload_here all_words 0 head_kind hp tail refl (omega (arith, h)), eq-eqb hp hp refl)

  position : ℕ
  position = after_rows d w all_words 1

  ends : position + 1 ≡ length all_words
  unfolding position end_words_lem
  ends = omega (arith, ap length rows.after, length-drop (after_rows d w all_words 1) all_words)

  body_length : length (body d w memory) ≡ position
  unfolding all_words image
  body_length = omega (arith, ends, length-append (body d w memory) (end_word (length (body d w memory)) ∷ []))

  end_passes : check_end all_words position ≡ go (length all_words)
  unfolding check_end tested next end_word end_words_lem position
  end_passes =
      let n = position % 2 ^ 28 in
      let e : drop position all_words ≡ word end_kind n ∷ [] = rows.after ∙ ap (λ (k : ℕ). word end_kind (k % 2 ^ 28) ∷ []) body_length in
      rw (due_here all_words position end_kind n [] e (omega arith), payload_here all_words position end_kind n [] e (omega arith), eq-eqb n n refl, ends, eq-eqb (length all_words) (length all_words) refl)

  passes : checked d w all_words ≡ go (length all_words)
  unfolding checked next position
  passes = rw (head_passes, rows.checks) end_passes

  pub restored : taken d w old (image d w memory) ≡ record { answer = accepted (length (image d w memory)); memory = memory }
  unfolding all_words
  restored =
      read_done d w old all_words 0 (sym call ∙ ap (bad_shape d w) (sym long)) refl (go (length all_words)) (sym passes) refl
      ∙ ap (λ (m : List ℕ). record { answer = accepted (length all_words); memory = m }) rows.is

-- what an accepted write has tested
record Writes (d w : ℕ) (memory lent : List ℕ) : Type 0 where
  call : bad_shape d w (length memory) ≡ 0
  merges : valid_rows d w memory ≡ true
  room : length (image d w memory) ≤ length lent

module _ (d w : ℕ) (memory lent : List ℕ) (e : (written d w memory lent).answer.status ≡ 0) where
  not_by : (x : Written) → written d w memory lent ≡ x → x.answer.status ≡ 0
  not_by x f = ap (λ (y : Written). y.answer.status) (sym f) ∙ e

  writes : Writes d w memory lent
  writes =
      cases (eqb (bad_shape d w (length memory)) 0)
      (λ t.
      let z = eqb-true (bad_shape d w (length memory)) 0 t in
      cases (valid_rows d w memory)
      (λ v. elim (dec_lt (length lent) (length (image d w memory))) [
        | yes l ↦ absurd (omega (arith, not_by _ (write_short d w memory lent 0 (sym z) refl v l)))
        | no l ↦ record { call = z; merges = v; room = omega arith }
      ])
      (λ v. absurd (omega (arith, not_by _ (write_invalid d w memory lent 0 (sym z) refl v)))))
      (λ t.
      let n = eqb-false (bad_shape d w (length memory)) 0 t in
      absurd (n (not_by _ (write_call d w memory lent (bad_shape d w (length memory)) refl n))))

  -- The words that the figure counts, read with the same d and w into any memory of that length, are accepted with the same figure and
  -- restore the meter. A memory that is lent is of bytes.
  pub written_restored : (old : List ℕ) → Bytes memory → length old ≡ length memory
      → taken d w old (take (written d w memory lent).answer.value (written d w memory lent).words) ≡ record { answer = (written d w memory lent).answer; memory = memory }
  written_restored old bytes long =
      rw (write_done d w memory lent 0 (sym writes.call) refl writes.merges writes.room, take-append_seam (image d w memory) (drop (length (image d w memory)) lent))
      (restored d w memory old writes.call bytes writes.merges long)

-- what an accepted read has tested
record Accepted (d w : ℕ) (old words : List ℕ) : Type 0 where
  call : bad_shape d w (length old) ≡ 0
  checks : checked d w words ≡ go (checked d w words).position
  is : (taken d w old words).memory ≡ read_rows d w old words 1

accepted_is : (d w : ℕ) (old words : List ℕ) → (taken d w old words).answer.status ≡ 0 → Accepted d w old words
accepted_is d w old words e =
    cases (eqb (bad_shape d w (length old)) 0)
    (λ t.
    let z = eqb-true (bad_shape d w (length old)) 0 t in
    let c = checked d w words in
    cases (eqb c.status 0)
    (λ u.
    let y = eqb-true c.status 0 u in
    record { call = z; checks = ap (λ (s : ℕ). record { status = s; position = c.position }) y; is = ap (λ (x : Done). x.memory) (read_done d w old words 0 (sym z) refl c refl y) })
    (λ u. absurd (eqb-false c.status 0 u (sym (ap (λ (x : Done). x.answer.status) (read_faulty d w old words 0 (sym z) refl c refl (eqb-false c.status 0 u))) ∙ e))))
    (λ t. absurd (eqb-false (bad_shape d w (length old)) 0 t
    (sym (ap (λ (x : Done). x.answer.status) (read_call d w old words (bad_shape d w (length old)) refl (eqb-false (bad_shape d w (length old)) 0 t))) ∙ e)))

record Head (d w : ℕ) (words : List ℕ) (q : ℕ) : Type 0 where
  position : q ≡ 1
  is : drop 0 words ≡ word head_kind (head_payload d w) ∷ drop 1 words

head_is : (d w : ℕ) (words : List ℕ) (q : ℕ) → check_head d w words ≡ go q → Head d w words q
unfolding check_head word
head_is d w words q e =
    let t = passed (below words 0 head_kind (2 ^ 9)) (λ p. tested words 0 head_kind (eqb (payload words 0) (head_payload d w)) other_meter) q e in
    let x = tested_is words 0 head_kind (eqb (payload words 0) (head_payload d w)) other_meter q (omega arith) t.after in
    record { position = x.position; is = x.is ∙ ap (λ (y : ℕ). word head_kind y ∷ drop 1 words) (eqb-true (payload words 0) (head_payload d w) x.true_of) }

record End (words : List ℕ) (p : ℕ) : Type 0 where
  long : length words ≡ p + 1
  is : drop p words ≡ end_word p ∷ []

end_is : (words : List ℕ) (p q : ℕ) → check_end words p ≡ go q → End words p
unfolding check_end end_word word
end_is words p q e =
    let test = tested words p end_kind (eqb (payload words p) (p % 2 ^ 28)) bad_payload in
    let t = passed test (λ r. cond (eqb (length words) r) (go r) (stop bad_word r)) q e in
    let x = tested_is words p end_kind (eqb (payload words p) (p % 2 ^ 28)) bad_payload test.position (omega arith) t.here in
    let l : length words ≡ test.position
    = cases (eqb (length words) test.position) (λ u. eqb-true (length words) test.position u) (λ u. absurd (omega (arith, ap (λ (s : Step). s.status) (rw u at t.after)))) in
    record {
      long = l ∙ x.position;
      is = x.is ∙ ap₂ (λ (y : ℕ) (ys : List ℕ). word end_kind y ∷ ys) (eqb-true (payload words p) (p % 2 ^ 28) x.true_of) (drop_of_length-le words {i = p + 1} (omega (arith, l, x.position)));
    }

-- a memory whose image the words are
record Exact (d w : ℕ) (words memory : List ℕ) : Type 0 where
  meter : Meter d w memory
  is : words ≡ image d w memory

module _ (d w : ℕ) (old words : List ℕ) (e : (taken d w old words).answer.status ≡ 0) where
  exact : Exact d w words (taken d w old words).memory
  unfolding checked image body
  exact =
      let a = accepted_is d w old words e in
      let s = sound_call d w (length old) a.call in
      let c = (checked d w words).position in
      let t = passed (check_head d w words) (λ p. next (check_fours (d * (w / 32)) words p) (λ q. check_end words q)) c a.checks in
      let h = head_is d w words (check_head d w words).position t.here in
      let u = passed (check_fours (d * (w / 32)) words 1) (λ q. check_end words q) c (ap (λ (p : ℕ). next (check_fours (d * (w / 32)) words p) (λ q. check_end words q)) (sym h.position) ∙ t.after) in
      let q = (check_fours (d * (w / 32)) words 1).position in
      let m = read_rows d w old words 1 in
      let r = rows_are d w old words 1 q s.width.whole s.long u.here in
      let x = end_is words q c u.after in
      let rows = rows_words d w m in
      let f : drop 1 words ≡ rows ++ end_word q ∷ [] = r.is ∙ ap (λ (z : List ℕ). rows ++ z) x.is in
      let n : q ≡ suc (length rows) = omega (arith, x.long, ap length f, length-drop 1 words, length-append rows (end_word q ∷ [])) in
      let i : words ≡ image d w m = h.is ∙ ap (λ (z : List ℕ). word head_kind (head_payload d w) ∷ z) (f ∙ ap (λ (k : ℕ). rows ++ end_word k ∷ []) n) in
      subst (λ (x : List ℕ). Exact d w words x) (sym a.is) (record { meter = record { shape = ap (bad_shape d w) r.long ∙ a.call; bytes = r.bytes; merges = r.merges }; is = i })

  pub accepted_image : words ≡ image d w (taken d w old words).memory
  accepted_image = exact.is

  pub accepted_written : (lent : List ℕ) → length words ≤ length lent
      → written d w (taken d w old words).memory lent ≡ record { answer = accepted (length words); words = words ++ drop (length words) lent }
  accepted_written lent h =
      let i = exact.is in
      write_done d w (taken d w old words).memory lent 0 (sym exact.meter.shape) refl exact.meter.merges (omega (arith, ap length i))
      ∙ ap (λ (x : List ℕ). record { answer = accepted (length x); words = x ++ drop (length x) lent }) (sym i)

-- Words are accepted, by a call with a valid depth, width and length of its memory, if and only if they are the image of a meter.
pub accepted_iff : (d w : ℕ) (old words : List ℕ) → bad_shape d w (length old) ≡ 0 → ((taken d w old words).answer.status ≡ 0) ↔ IsImage d w words
accepted_iff d w old words call =
    ((λ e. record { memory = (taken d w old words).memory; meter = (exact d w old words e).meter; is = (exact d w old words e).is }), back)
  where
    back : IsImage d w words → (taken d w old words).answer.status ≡ 0
    back i =
        let m = i.meter in
        let long : length old ≡ length i.memory = (sound_call d w (length old) call).long ∙ sym (sound_call d w (length i.memory) m.shape).long in
        ap (λ (x : List ℕ). (taken d w old x).answer.status) i.is
        ∙ ap (λ (x : Done). x.answer.status) (restored d w i.memory old m.shape m.bytes m.merges long)

-- A refused place is sharp: the words before it, read alone, are refused only because a word is missing there, or are accepted and so
-- are a whole image.
module _ (d w : ℕ) (old words : List ℕ) (call : bad_shape d w (length old) ≡ 0) (n : (taken d w old words).answer.status ≡ 0 → ⊥) where
  faulty : (checked d w words).status ≡ 0 → ⊥
  faulty z = n (ap (λ (x : Done). x.answer.status) (read_done d w old words 0 (sym call) refl (checked d w words) refl z))

  at_fault : (taken d w old words).answer.position ≡ (checked d w words).position
  at_fault = ap (λ (x : Done). x.answer.position) (read_faulty d w old words 0 (sym call) refl (checked d w words) refl faulty)

  pub sharp : (q : ℕ) → (taken d w old words).answer.position ≡ q
      → ((taken d w old (take q words)).answer ≡ record { status = bad_word; position = q; value = 0 }) ⊎ ((taken d w old (take q words)).answer ≡ accepted q)
  sharp q e =
      ⊎_elim
      (λ x. inl (ap (λ (y : Done). y.answer) (read_faulty d w old (take q words) 0 (sym call) refl (stop bad_word q) (sym x) (λ z. omega arith))))
      (λ x. inr (ap (λ (y : Done). y.answer) (read_done d w old (take q words) 0 (sym call) refl (go q) (sym x) refl)))
      (sharp_at d w words q faulty (sym at_fault ∙ e))

-- A sound head with another payload than the call's depth and width have is 10 at place 0, whatever follows it.
module _ (d w v : ℕ) (memory rest : List ℕ) (call : bad_shape d w (length memory) ≡ 0) (low : v < 2 ^ 9) where
  other_checked : (v ≡ head_payload d w → ⊥) → stop other_meter 0 ≡ checked d w (word head_kind v ∷ rest)
  unfolding checked check_head tested next
  other_checked n =
      let words = word head_kind v ∷ rest in
      let l : v < 2 ^ 28 = omega arith in
      rw (below_here words 0 head_kind v rest refl l (2 ^ 9) low, due_here words 0 head_kind v rest refl l, payload_here words 0 head_kind v rest refl l, ne_eqb v (head_payload d w) n)

  pub other_head : (v ≡ head_payload d w → ⊥) → taken d w memory (word head_kind v ∷ rest) ≡ record { answer = refused other_meter; memory = memory }
  other_head n = read_faulty d w memory (word head_kind v ∷ rest) 0 (sym call) refl (stop other_meter 0) (other_checked n) (λ z. omega arith)

  -- so is one with a larger logarithm than the largest width has
  pub head_too_wide : largest_log < v / 16 → taken d w memory (word head_kind v ∷ rest) ≡ record { answer = refused other_meter; memory = memory }
  unfolding head_payload
  head_too_wide h = other_head (λ e. omega (arith, log_width_most w, (sound_call d w (length memory) call).depth))

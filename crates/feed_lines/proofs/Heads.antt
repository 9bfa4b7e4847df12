-- What an accepted head's line says: the depth and width of a meter that fits in the memory lent.
use mathlib.Core.Path.{◌≡◌, refl, sym, ap, ◌∙◌}
use mathlib.Core.Bool.{true, false, true≢false}
use mathlib.Core.List.{List}
use Prim.Native.Nat.{ℕ, ◌*◌, ◌/◌, ◌^◌, ◌≤◌}
use native.Mathlib.Nat.{mul-le-mul}
use native.Mathlib.Omega.{arith}
use borrow.Author.Tests.{eqb-true, eq-eqb, leb-true}
use lib.Dec.{eqb, leb}
use lib.ListN.{length}
use Rattle.answer.specs.declared.Answer.{Answer}
use Rattle.geometry.specs.Geometry.{valid_depth, valid_width, stride, size}
use Rattle.answer.specs.Order.{first_of}
use Rattle.geometry.specs.Checks.{bad_shape}
use Rattle.geometry.proofs.Widths.{depth_in}
use Rattle.word.specs.Word.{head_kind, stop, payload, is_due, tested, below}
use Rattle.word.proofs.Laws.{due_in}
use Rattle.feed.specs.Head.{head_depth, head_width, bad_geometry, head_step, headed}
use Rattle.feed_line.specs.declared.Line.TheVariants as line
use Rattle.feed_line.specs.Line.{continues}
use Rattle.feed_lines.specs.Line.{head_line}
use Rattle.feed_lines.specs.Bounds.{Fitting, FittingLine}
use borrow.Table.Steps.{cases}
use Rattle.feed_lines.proofs.Record.{next_passed}

good_geometry : (v : ℕ) → bad_geometry v ≡ 0 → (valid_depth (head_depth v) ≡ true) × (valid_width (head_width v) ≡ true)
unfolding bad_geometry first_of
good_geometry v =
    cases (valid_depth (head_depth v))
    (λ t. rw t (cases (valid_width (head_width v)) (λ s. rw s (λ e. (refl, refl))) (λ s. rw s (λ e. absurd (omega arith)))))
    (λ t. rw t (λ e. absurd (omega arith)))

-- a head whose words pass
head_step_lem : (words : List ℕ) → (head_step words).status ≡ 0 → (1 ≤ length words) × (bad_geometry (payload words 0) ≡ 0)
unfolding head_step below tested
head_step_lem words e =
    let h = next_passed (below words 0 head_kind (2 ^ 9)) (λ p. stop (bad_geometry (payload words 0)) 0) e in
    (due h.0, sym (ap (λ s. s.status) h.1) ∙ e)
  where
    due : (below words 0 head_kind (2 ^ 9)).status ≡ 0 → 1 ≤ length words
    due = cases (is_due words 0 head_kind) (λ t k. due_in words 0 head_kind t) (λ t. rw t (λ k. absurd (omega arith)))

pub accepted_some : (words : List ℕ) → (headed words).status ≡ 0 → 1 ≤ length words
unfolding headed
accepted_some words =
    cases (eqb (head_step words).status 0) (λ t e. (head_step_lem words (eqb-true _ 0 t)).0)
    (λ t. rw t (λ e. absurd (true≢false (sym (eq-eqb _ 0 e) ∙ t))))

pub head_fits : (words : List ℕ) → FittingLine (head_line (headed words))
unfolding headed head_line
head_fits words =
    cases (eqb (head_step words).status 0)
    (λ t. rw t
    (cases (leb (head_width (payload words 0)) 4096)
    (λ s. rw s (let g = good_geometry (payload words 0) (head_step_lem words (eqb-true _ 0 t)).1 in (g.0, g.1, leb-true _ _ s)))
    (λ s. rw s tt)))
    (λ t. rw (t, t) tt)

-- the depth and width of a line that gives a geometry
pub head_geometry : (a : Answer) (d w : ℕ) → head_line a ≡ line.Geometry d w → (a.status ≡ 0) × (head_depth a.value ≡ d) × (head_width a.value ≡ w)
unfolding head_line continues
head_geometry a d w =
    cases (eqb a.status 0)
    (λ t. rw t
    (cases (leb (head_width a.value) 4096) (λ s. rw s (λ e. (eqb-true _ 0 t, cc, cc))) (λ s. rw s (λ e. absurd (true≢false (sym (ap continues e)))))))
    (λ t. rw t (λ e. absurd (true≢false (sym (ap continues e)))))

-- a head's line that gives none stops the feed
pub no_geometry : (a : Answer) → ((d w : ℕ) → head_line a ≡ line.Geometry d w → ⊥) → continues (head_line a) ≡ false
unfolding head_line continues
no_geometry a =
    cases (eqb a.status 0)
    (λ t. rw t (cases (leb (head_width a.value) 4096) (λ s. rw s (λ h. absurd (h (head_depth a.value) (head_width a.value) refl))) (λ s. rw s (λ h. refl))))
    (λ t. rw t (λ h. refl))

-- and one after which a record follows gives one
pub goes_on : (a : Answer) → continues (head_line a) ≡ true → head_line a ≡ line.Geometry (head_depth a.value) (head_width a.value)
unfolding head_line continues
goes_on a =
    cases (eqb a.status 0)
    (λ t. rw t (cases (leb (head_width a.value) 4096) (λ s. rw s (λ e. refl)) (λ s. rw s (λ e. absurd (true≢false (sym e))))))
    (λ t. rw t (λ e. absurd (true≢false (sym e))))

-- such a meter's memory
pub fitting_shape : (d w n : ℕ) → Fitting d w → n ≡ size d w → bad_shape d w n ≡ 0
unfolding first_of
fitting_shape d w n f e = rw (f.0, f.1, eq-eqb n (size d w) e)

pub fitting_size : (d w : ℕ) → Fitting d w → d * stride w ≤ 36864
unfolding stride
fitting_size d w f =
    mul-le-mul {n₁ = d} {m₁ = w * 9 / 8} {n₂ = 8} {m₂ = 4608} (depth_in d f.0).1 (omega (arith, f.2))

use mathlib.Core.Path.{◌≡◌, sym, ◌∙◌}
use Prim.Native.Nat.{◌+◌}
use lib.ListN.{get_or}
use Rattle.image_format.specs.Image.{layout_at}
use Rattle.image_writer.proofs.Laws.{layout_is, layout_lt}
use Rattle.group_codes.proofs.Packing.{four_of_lem}
use Rattle.image_writer.proofs.layout_at.Goals as goal

pub returns : goal.returns
returns c = let a = c.args in
    let m = a.w + a.g in
    let e : c.four_code.result ≡ layout_at a.w a.row.now a.g
    = c.four_code.ensures
    ∙ rw (c.code_at.ensures, c.code_at-2.ensures, c.code_at-3.ensures, c.code_at-4.ensures)
    (sym (four_of_lem (get_or a.row.now m 0) (get_or a.row.now (m + 1) 0) (get_or a.row.now (m + 2) 0) (get_or a.row.now (m + 3) 0)))
    ∙ layout_is a.w a.row.now a.g in record { value = e; upper_bound = rw e (layout_lt a.w a.row.now a.g) }

-- P1 to P12 hold of the definitions, by computation.
use mathlib.Core.Path.{refl}
use Rattle.little_endian.specs.Bytes.{number, bytes}
use Rattle.group_layout.specs.Layout.{bit, ones, marks, layout, valid}
use Rattle.group_layout.specs.Code.{layouts, merged_code, code}
use Rattle.group_block.specs.Block.{cap, shape, number_of, fill, total, block_as}
use Rattle.group_block.specs.Sum.{sum_total, held, join, add, unite}
use Rattle.group.specs.Group.{decode, encode, settle, added, united_groups}
use Rattle.group_codes.specs.Pack.{group_code, four_code, packed}
use Rattle.group_codes.specs.Cases.{cases, AllHold}

pub cases_hold : AllHold cases
unfolding bit ones marks layout valid layouts merged_code code cap shape number_of fill block_as total sum_total held join add unite
    number bytes decode encode settle added united_groups group_code four_code packed
cases_hold =
    (refl, (refl, (refl, (refl, (refl, (refl, (refl, (refl, (refl, (refl, (refl, (refl, (refl, (refl, (refl, (refl, (refl, (refl, (refl, (refl, (refl, (refl, (refl, tt)))))))))))))))))))))))

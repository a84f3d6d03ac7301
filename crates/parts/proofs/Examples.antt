-- The definitions at work on small pages, shorter than any that the reader accepts: what a line hands out.
use mathlib.Core.List.{[]}
use mathlib.Core.Path.{◌≡◌, refl}
use Rattle.compare.proofs.Examples.{element, newer, cut}
use Rattle.compare.specs.Walk.{cursor}
use Rattle.compare.specs.declared.Line.TheVariants.{OnlyOlder, Changed}
use Rattle.layout.specs.Bytes.{descriptor_bytes}
use Rattle.reach.specs.Pages.{count_of}
use Rattle.words.specs.declared.Order.TheVariants.{Little}
use Rattle.parts.specs.Parts.{descriptor_part, part_of}

-- the newer's part of a changed element, and none of a wild line
handed : part_of cut newer (Changed (cursor 1 0)) ≡ descriptor_bytes Little (element 3 0x10)
unfolding cut count_of descriptor_part
handed = refl

wild : part_of cut newer (OnlyOlder 2) ≡ []
unfolding cut count_of descriptor_part
wild = refl

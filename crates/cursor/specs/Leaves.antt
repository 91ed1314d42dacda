-- What the two leaves show.
use Rattle.std.specs.List.{slice_get}
use Rattle.cursor.specs.declared.count.CountLeaf.{CountLeaf}
use Rattle.cursor.specs.declared.slice.SliceLeaf.{SliceLeaf}
use Rattle.cursor.specs.Rows.{Row, numbers}
use Rattle.cursor.specs.Spans.{shown}
use Rattle.std.specs.Prelude.{ℕ}

abbrev pub count_row : CountLeaf → Row ℕ
count_row c = shown numbers c.bounds

abbrev pub count_home : CountLeaf → Row ℕ
count_home c = shown numbers c.home

abbrev pub slice_row : {T : Type 0} → SliceLeaf T → Row T
slice_row c = shown (slice_get c.items.now) c.bounds

abbrev pub slice_home : {T : Type 0} → SliceLeaf T → Row T
slice_home c = shown (slice_get c.items.now) c.home

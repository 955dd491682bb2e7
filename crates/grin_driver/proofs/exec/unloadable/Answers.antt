use Rattle.elf32.specs.declared.refusal.ElfRefusal.TheVariants.{ImageTooLong, TooShort, NotElf, NotRiscv32Exec, HeaderOutside, SegmentOutside, SegmentsOverlap, EntryOutside, SegmentsTooLarge}
use Rattle.grin_driver.proofs.Execution.{unloadable}
use Rattle.grin_driver.proofs.exec.unloadable.Goals as goal

pub returns-in-ImageTooLong : goal.returns-in-ImageTooLong
returns-in-ImageTooLong c = λ bytes h. rw c.refused.ensures
    (unloadable ImageTooLong bytes (rw c.in-ImageTooLong.is at h))

pub returns-in-TooShort : goal.returns-in-TooShort
returns-in-TooShort c = λ bytes h. rw c.refused-in-TooShort.ensures
    (unloadable TooShort bytes (rw c.in-TooShort.is at h))

pub returns-in-NotElf : goal.returns-in-NotElf
returns-in-NotElf c = λ bytes h. rw c.refused-in-NotElf.ensures
    (unloadable NotElf bytes (rw c.in-NotElf.is at h))

pub returns-in-NotRiscv32Exec : goal.returns-in-NotRiscv32Exec
returns-in-NotRiscv32Exec c = λ bytes h. rw c.refused-in-NotRiscv32Exec.ensures
    (unloadable NotRiscv32Exec bytes (rw c.in-NotRiscv32Exec.is at h))

pub returns-in-HeaderOutside : goal.returns-in-HeaderOutside
returns-in-HeaderOutside c = λ bytes h. rw c.refused-in-HeaderOutside.ensures
    (unloadable HeaderOutside bytes (rw c.in-HeaderOutside.is at h))

pub returns-in-SegmentOutside : goal.returns-in-SegmentOutside
returns-in-SegmentOutside c = λ bytes h. rw c.refused-in-SegmentOutside.ensures
    (unloadable (SegmentOutside c.in-SegmentOutside.header) bytes (rw c.in-SegmentOutside.is at h))

pub returns-in-SegmentsOverlap : goal.returns-in-SegmentsOverlap
returns-in-SegmentsOverlap c = λ bytes h. rw c.refused-in-SegmentsOverlap.ensures
    (unloadable (SegmentsOverlap c.in-SegmentsOverlap.header) bytes
    (rw c.in-SegmentsOverlap.is at h))

pub returns-in-EntryOutside : goal.returns-in-EntryOutside
returns-in-EntryOutside c = λ bytes h. rw c.refused-in-EntryOutside.ensures
    (unloadable EntryOutside bytes (rw c.in-EntryOutside.is at h))

pub returns-in-SegmentsTooLarge : goal.returns-in-SegmentsTooLarge
returns-in-SegmentsTooLarge c = λ bytes h. rw c.refused-in-SegmentsTooLarge.ensures
    (unloadable SegmentsTooLarge bytes (rw c.in-SegmentsTooLarge.is at h))

-- What the devices of the system, and the adapters over devices, are made of.
use Rattle.std.specs.Prelude.{ℕ}
use Rattle.ms_outside.specs.declared.system.SystemReader.{SystemReader}
use Rattle.ms_outside.specs.declared.system.SystemWriter.{SystemWriter}
use Rattle.ms_outside.specs.declared.system.SystemDisk.{SystemDisk}
use Rattle.ms_outside.specs.declared.std_source.StdSource.{StdSource}
use Rattle.ms_outside.specs.declared.std_sink.StdSink.{StdSink}
use Rattle.ms_outside.specs.declared.file_shelf.FileShelf.{FileShelf}

abbrev pub reader_of : {R : Type 0} → SystemReader R → R
reader_of s = s.reader

abbrev pub reader_faults : {R : Type 0} → SystemReader R → ℕ
reader_faults s = s.faults

abbrev pub writer_of : {W : Type 0} → SystemWriter W → W
writer_of s = s.writer

abbrev pub writer_faults : {W : Type 0} → SystemWriter W → ℕ
writer_faults s = s.faults

abbrev pub disk_read_faults : {R : Type 0} → SystemDisk R → ℕ
disk_read_faults s = s.read_faults

abbrev pub disk_write_faults : {R : Type 0} → SystemDisk R → ℕ
disk_write_faults s = s.write_faults

abbrev pub source_device : {D : Type 0} → StdSource D → D
source_device s = s.device

abbrev pub source_takes : {D : Type 0} → StdSource D → ℕ
source_takes s = s.takes

abbrev pub sink_device : {D : Type 0} → StdSink D → D
sink_device s = s.device

abbrev pub sink_puts : {D : Type 0} → StdSink D → ℕ
sink_puts s = s.puts

abbrev pub shelf_disk : {D : Type 0} → FileShelf D → D
shelf_disk s = s.disk

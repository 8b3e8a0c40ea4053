-- The head of a file that is being opened.
use Rattle.std.specs.Prelude.{◌≡◌, ℕ, ◌≤◌, length}
use Rattle.disk.specs.declared.file_id.FileId.{FileId}
use Rattle.disk.specs.Disk.{Disk, Image, Synced}
use Rattle.gated_log.specs.declared.header.AtHeader.{AtHeader}
use Rattle.gated_log.specs.declared.head.LogHead.{LogHead}
use Rattle.disk.specs.Areas.{folder_of}
use Rattle.gated_log.specs.Labels.{header_size}
use Rattle.gated_log.specs.Headers.{IsAtHeader, number_in}

abbrev pub head_file : LogHead → FileId
head_file head = head.file

abbrev pub head_size : LogHead → ℕ
head_size head = head.size

abbrev pub head_header : LogHead → AtHeader
head_header head = head.header

abbrev pub head_number : LogHead → ℕ
head_number head = head.number

-- it is the head of its file
pub record IsHead (head : LogHead) (image : Image) : Type 0 where
  pub size_is : head.size ≡ length (image head.file)
  pub header_is : IsAtHeader (folder_of head.file) (image head.file) head.header
  pub number_is : header_size (folder_of head.file) ≤ head.size → head.number ≡ number_in (image head.file)

-- and a crash leaves the file as it was read
pub record HasHead (head : LogHead) (disk : Disk) : Type 0 where
  pub is : IsHead head disk.seen
  pub synced : Synced head.file disk

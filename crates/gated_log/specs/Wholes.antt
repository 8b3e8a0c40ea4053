-- A whole log that stands in memory.
use Rattle.std.specs.Prelude.{◌≡◌, ◌-◌, [], ◌∷◌, ◌++◌, length, drop}
use Rattle.disk.specs.declared.file_id.Folder.{Folder}
use Rattle.gated_log.specs.Labels.{header_size}
use Rattle.gated_log.specs.declared.prepared_log.LogBuilder.{LogBuilder}
use Rattle.gated_log.specs.declared.prepared_log.PreparedLog.{PreparedLog}
use Rattle.gated_log.specs.Batches.{Bodies, batches, AllFit}

-- the version of the folder that it is for
abbrev pub folder_in : PreparedLog → Folder
folder_in log = log.folder

-- batches of these bodies, behind room for a header but for its gate
pub record Builds (builder : LogBuilder) (bodies : Bodies) : Type 0 where
  pub fit : AllFit bodies
  pub count : builder.count ≡ length bodies
  pub bytes : drop (header_size builder.folder - 1) builder.bytes.items ≡ batches bodies

-- and a closed gate behind them
pub record IsLogOf (log : PreparedLog) (bodies : Bodies) : Type 0 where
  pub fit : AllFit bodies
  pub count : log.count ≡ length bodies
  pub bytes : drop (header_size log.folder - 1) log.bytes.items ≡ batches bodies ++ 0 ∷ []

-- A ledger that is copied stands for what it stood for, laid out as it was.
use Rattle.std.proofs.Common.{sym, Result, Ok, Err, OnOk}
use Rattle.disk.specs.declared.file_id.TopicId.{TopicId}
use Rattle.disk.specs.Disk.{Disk, Image}
use Rattle.journal.specs.Chains.{Chain}
use Rattle.journal.specs.Chains as chains
use Rattle.journal.specs.Copies.{AreSynced, left_stands}
use Rattle.managed_ledger.specs.declared.managed_ledger.ManagedLedger.{ManagedLedger}
use Rattle.managed_ledger.specs.Entries.{Ledger, Stands}
use Rattle.managed_ledger.specs.Ledgers.{SettledAs, ledger_topic, start_of, counts_of}
use Rattle.managed_ledger.specs.Laid.{IsLaidOut, index_laid}
use Rattle.managed_ledger.specs.Segments.{index_base, index_ledger}

pub copied : {T E : Type 0} (result : Result T E) (ledger : ManagedLedger) (topic : TopicId) (old new : Disk) (chain : Chain) (l : Ledger) → SettledAs ledger old chain l
    → OnOk result (chains.Stands topic (start_of ledger).first new.seen chain) → OnOk result (AreSynced topic (start_of ledger).first chain new) → OnOk result ((c : Image) → new.may_leave c → Stands topic (start_of ledger) c l)
copied (Err e) ledger topic old new chain l s stands synced = tt
copied (Ok x) ledger topic old new chain l s stands synced = λ c may. record {
  chain = chain;
  segments = left_stands topic (start_of ledger).first chain new stands synced c may;
  ledger = index_ledger (ledger_topic ledger).folder ledger.closed.items ledger.last chain l s.few s.index;
  begins = sym (index_base (ledger_topic ledger).folder ledger.closed.items ledger.last chain l s.index);
}

pub copied_laid : {T E : Type 0} (result : Result T E) (ledger : ManagedLedger) (topic : TopicId) (old new : Disk) (chain : Chain) (l : Ledger) → SettledAs ledger old chain l
    → OnOk result (chains.Stands topic (start_of ledger).first new.seen chain) → OnOk result (AreSynced topic (start_of ledger).first chain new)
    → OnOk result ((c : Image) → new.may_leave c → IsLaidOut topic (start_of ledger).first c (counts_of ledger))
copied_laid (Err e) ledger topic old new chain l s stands synced = tt
copied_laid (Ok x) ledger topic old new chain l s stands synced = λ c may. record {
  chain = chain;
  segments = left_stands topic (start_of ledger).first chain new stands synced c may;
  each = index_laid (ledger_topic ledger).folder ledger.closed.items ledger.last chain l s.index;
}

-- The text of a log as it is written, a piece at a time.
use Rattle.std.specs.Prelude.{ℕ, List, ◌++◌, flat_map, codes, decimal}
use Rattle.wasi_world.specs.declared.call.Entry.{Entry}
use Rattle.wasi_world.specs.declared.outcome.WasiSocketsCtx.{WasiSocketsCtx}
use Rattle.world_text.specs.EntryText as shown
use Rattle.wasi_replay.specs.Log.{allowed_text}

abbrev pub context_text : WasiSocketsCtx → List ℕ
context_text context = codes "context " ++ allowed_text context.tcp ++ codes " " ++ allowed_text context.udp ++ codes " " ++ allowed_text context.ip_name_lookup ++ codes " " ++ decimal context.write_limit ++ codes "\n"

abbrev pub contexts_text : List WasiSocketsCtx → List ℕ
contexts_text contexts = flat_map context_text contexts

abbrev pub entry_text : Entry → List ℕ
entry_text e = shown.entry_text e ++ codes "\n"

abbrev pub entries_text : List Entry → List ℕ
entries_text log = flat_map entry_text log

abbrev pub pieces : List WasiSocketsCtx → List Entry → List ℕ
pieces contexts log = contexts_text contexts ++ entries_text log ++ codes "end\n"

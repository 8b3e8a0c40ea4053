-- What a command line asks for.
use Rattle.std.specs.Prelude.{ℕ, List, [], Option, Some, None, option_map, option_and_then, codes}
use Rattle.clap.specs.Words.{first_of, first_value, found_of, one_text, subcommand_rows_of}
use Rattle.clap.specs.declared.parser.matches.ArgMatches.{ArgMatches}

-- the file that the subcommand names; none where no subcommand stands
abbrev pub file_of : ArgMatches → Option (List ℕ)
file_of matches = option_and_then (λ rows. first_of (codes "FILE") rows) (option_map (λ p. p.1) (subcommand_rows_of matches))

-- the path, or that without a byte where none is given
abbrev pub or_none : Option (List ℕ) → List ℕ
or_none (Some path) = path
or_none None = []

-- the folder that a subcommand's words name
abbrev pub folder_in : ArgMatches → List ℕ
folder_in words = or_none (first_value (found_of words) (codes "DIR"))

-- the address at which `serve` is to listen
abbrev pub address_in : ArgMatches → List ℕ
address_in words = or_none (first_value (found_of words) (codes "ADDR"))

-- the first path, where there is one, or else the second
abbrev pub or_else : Option (List ℕ) → List ℕ → List ℕ
or_else (Some path) _ = path
or_else None other = other

-- where clients of `serve` are told to connect: at the address where it listens, unless another one is named
abbrev pub advertised_in : ArgMatches → List ℕ
advertised_in words = or_else (first_value (found_of words) (codes "advertise")) (address_in words)

-- where `serve` is to show status pages, if it is
abbrev pub status_in : ArgMatches → Option (List ℕ)
status_in words = first_value (found_of words) (codes "status")

-- the text that says how many entries a ledger is to have
abbrev pub entries_in : ArgMatches → Option (List ℕ)
entries_in words = one_text (found_of words) (codes "entries")

-- the text that says for how many seconds a client may say nothing
abbrev pub silence_in : ArgMatches → Option (List ℕ)
silence_in words = one_text (found_of words) (codes "idle")

-- By which address clients find a broker.
use Rattle.std.specs.Prelude.{ℕ, List, ◌++◌, codes}

-- what LOOKUP answers where clients are told this address: a URL of Pulsar's binary protocol
abbrev pub url_of : List ℕ → List ℕ
url_of advertised = codes "pulsar://" ++ advertised

-- How names stand in the pages.
use Rattle.std.specs.Prelude.{ℕ, ◌==◌, List, [], ◌∷◌, if◌then◌else◌, codes}
use Rattle.std.specs.List.{flat_map}

-- a byte in the value of a label, in the text format of Prometheus: backslash, quotation mark and line feed stand behind a backslash
abbrev pub label_byte : ℕ → List ℕ
label_byte b = if b == 92 then 92 ∷ 92 ∷ [] else (if b == 34 then 92 ∷ 34 ∷ [] else (if b == 10 then 92 ∷ 110 ∷ [] else b ∷ []))

-- a text in the value of a label
abbrev pub label_text : List ℕ → List ℕ
label_text text = flat_map label_byte text

-- a byte in HTML, in text and in the value of an attribute: no markup begins or ends by it
abbrev pub html_byte : ℕ → List ℕ
html_byte b =
    if b == 38 then codes "&amp;" else (if b == 60 then codes "&lt;" else (if b == 62 then codes "&gt;"
    else (if b == 34 then codes "&quot;" else (if b == 39 then codes "&#39;" else b ∷ []))))

-- a text in HTML
abbrev pub html_text : List ℕ → List ℕ
html_text text = flat_map html_byte text

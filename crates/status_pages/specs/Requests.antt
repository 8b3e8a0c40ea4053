-- Which answer a request gets.
use Rattle.std.specs.Prelude.{ℕ, Bool, true, false, ◌||◌, List, if◌then◌else◌, codes}
use Rattle.std.specs.Str.{bytes_eq}
use Rattle.status_pages.specs.declared.requests.Page.{Page}
use Rattle.status_pages.specs.declared.requests.Page.TheVariants.{Overview, Status, Metrics, Health}
use Rattle.status_pages.specs.declared.requests.Answer.{Answer}
use Rattle.status_pages.specs.declared.requests.Answer.TheVariants.{Shown, NotFound, MethodNotAllowed, Refused}

-- the page at a target
abbrev pub answer_at : List ℕ → Answer
answer_at target =
    if bytes_eq target (codes "/") then Shown Overview else (if bytes_eq target (codes "/status") then Shown Status
    else (if bytes_eq target (codes "/metrics") then Shown Metrics else (if bytes_eq target (codes "/health") then Shown Health else NotFound)))

-- nothing is changed by a request, and nothing but GET and HEAD is taken
abbrev pub is_reading : List ℕ → Bool
is_reading method = bytes_eq method (codes "GET") || bytes_eq method (codes "HEAD")

-- what a request is answered
abbrev pub answer_to : List ℕ → List ℕ → Answer
answer_to method target = if is_reading method then answer_at target else MethodNotAllowed

-- the status of a page
abbrev pub page_status : Page → Bool → ℕ
page_status Health false = 503
page_status Health true = 200
page_status Overview _ = 200
page_status Status _ = 200
page_status Metrics _ = 200

-- the status of an answer
abbrev pub status_of : Answer → Bool → ℕ
status_of (Shown page) is_healthy = page_status page is_healthy
status_of NotFound _ = 404
status_of MethodNotAllowed _ = 405
status_of (Refused status) _ = status

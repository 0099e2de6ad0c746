-- A Location stands just with status Found, and is graphic ASCII.
use Rattle.std.proofs.Common.{◌≡◌, ◌≢◌, ℕ, Bool, true, false, cond, List, All, Option, Some, None, MatchOption, String, string_bytes, option_map, sym, ◌∙◌, subst, inl, inr}
use Rattle.std.specs.Global.{Global}
use Rattle.std.specs.Prelude.{codes}
use Rattle.std.proofs.lemmas.List.Elements.{All-append, All-cons}
use Rattle.hdl_languages.specs.declared.language.Language.{Language}
use Rattle.hdl_value.specs.declared.value.Value.{Value}
use Rattle.hdl_proxy.specs.Answer.{LeadsTo, Tells, IsLocated, IsWayAt, IsWayBy, IsWayFrom, IsWayOf, IsWayOfValue, IsWayToMeant, Follows, FollowsUnless, Goes, ShowsValues, ShowsFound}
use Rattle.hdl_proxy.specs.Link.{IsLink, address_of, path_to, path_to_form, path_to_json, path_to_values}
use Rattle.hdl_proxy.specs.Status.{status_of_code}
use Rattle.hdl_proxy.specs.Url.{IsGraphic, extend}
use Rattle.hdl_proxy.specs.declared.answer.Answer.{Answer}
use Rattle.hdl_proxy.specs.declared.answer.Media.{Media}
use Rattle.hdl_proxy.specs.declared.answer.Status.{Status}
use Rattle.hdl_proxy.specs.declared.answer.Status.TheVariants as status
use Rattle.hdl_proxy.specs.declared.found.Found.{Found}
use Rattle.hdl_proxy.specs.declared.locations.Location.{Location}
use Rattle.hdl_proxy.specs.declared.note.Note.{Note}
use Rattle.std.specs.Borrow.{Bor}
use Rattle.hdl_proxy.specs.declared.found.Found.TheVariants.{Values, Refused, Nothing}
use Rattle.hdl_proxy.specs.declared.question.AnswerFormat.{AnswerFormat}
use Rattle.hdl_proxy.specs.declared.question.AnswerFormat.TheVariants.{Follow, Page, Json, Pretty}
use Rattle.hdl_proxy.proofs.Addresses.{api_graphic, form_word_graphic, graphic, location_covers, path_covers, slash_graphic, word_graphic}

-- ---- links are graphic ASCII

pub address_graphic : (url : List ℕ) → All IsGraphic (address_of url)
address_graphic url = graphic _ location_covers url

pub path_graphic : (name : List ℕ) → All IsGraphic (path_to name)
path_graphic name = All-cons IsGraphic 47 _ slash_graphic (graphic _ path_covers name)

pub values_path_graphic : (name : List ℕ) → All IsGraphic (path_to_values name)
values_path_graphic name = All-append IsGraphic (path_to name) (codes "?noredirect") (path_graphic name) word_graphic

pub form_path_graphic : (name : List ℕ) → All IsGraphic (path_to_form name)
form_path_graphic name = All-append IsGraphic (path_to name) (codes "?edit") (path_graphic name) form_word_graphic

pub json_path_graphic : (name : List ℕ) → All IsGraphic (path_to_json name)
json_path_graphic name = All-append IsGraphic (codes "/api/handles") (path_to name) api_graphic (path_graphic name)

pub link_graphic : (to : List ℕ) → IsLink to → All IsGraphic to
link_graphic to (inl w) = subst (All IsGraphic) (sym w.1.1) (address_graphic w.0)
link_graphic to (inr (inl w)) = subst (All IsGraphic) (sym w.1.1) (path_graphic w.0)
link_graphic to (inr (inr (inl w))) = subst (All IsGraphic) (sym w.1.1) (values_path_graphic w.0)
link_graphic to (inr (inr (inr (inl w)))) = subst (All IsGraphic) (sym w.1.1) (form_path_graphic w.0)
link_graphic to (inr (inr (inr (inr w)))) = subst (All IsGraphic) (sym w.1.1) (json_path_graphic w.0)

-- ---- answers

located_some : (o : Option (String Global)) (s : Status) (to : List ℕ) → option_map string_bytes o ≡ Some to → s ≡ status.Found → All IsGraphic to → MatchOption o (s ≢ status.Found) (λ text. (s ≡ status.Found) × All IsGraphic (string_bytes text))
located_some None s to e f g = absurd cc
located_some (Some text) s to e f g =
    let same : to ≡ string_bytes text = cc in
    (f, subst (All IsGraphic) same g)

pub leads_located : (title to : List ℕ) (a : Answer) → All IsGraphic to → LeadsTo title to a → IsLocated a
leads_located title to a g h = located_some a.location a.status to h.location h.status g

located_none : (o : Option (String Global)) (s : Status) → o ≡ None → s ≢ status.Found → MatchOption o (s ≢ status.Found) (λ text. (s ≡ status.Found) × All IsGraphic (string_bytes text))
located_none None s e f = f
located_none (Some text) s e f = absurd cc

pub tells_located : (s : Status) (m : Media) (a : Answer) → s ≢ status.Found → Tells s m a → IsLocated a
tells_located s m a other h = located_none a.location a.status h.location (λ e. other (sym h.status ∙ e))

-- ---- what is found

either : (b : Bool) (x y : Status) → x ≢ status.Found → y ≢ status.Found → cond b x y ≢ status.Found
either true x y p q = p
either false x y p q = q

no_code_follows : (code : ℕ) → status_of_code code ≢ status.Found
no_code_follows code =
    either _ status.Success _ (λ e. cc)
    (either _ status.NotFound _ (λ e. cc)
    (either _ status.BadRequest _ (λ e. cc)
    (either _ status.Unavailable status.BadGateway (λ e. cc) (λ e. cc))))

meant_graphic : (url : Option (List ℕ)) (to : List ℕ) → IsWayToMeant url (Some to) → All IsGraphic to
meant_graphic None to w = absurd cc
meant_graphic (Some url) to w = subst (All IsGraphic) (sym w.1) (address_graphic url)

way_graphic : (append to : List ℕ) (first : Option Value) (wrong : Note) → IsWayOfValue first append (Some to) wrong → All IsGraphic to
way_graphic append to None wrong w = meant_graphic None to w.0
way_graphic append to (Some v) wrong w = meant_graphic (extend v.bytes append) to w.0

url_graphic : (values : List Value) (append to : List ℕ) (wrong : Note) → IsWayOf values append (Some to) wrong → All IsGraphic to
url_graphic values append to wrong w = way_graphic append to w.0 wrong w.1.1

at_graphic : (chosen : Option (Bor Location)) (values : List Value) (append to : List ℕ) (wrong : Note) → IsWayAt chosen values append (Some to) wrong → All IsGraphic to
at_graphic None values append to wrong w = url_graphic values append to wrong w
at_graphic (Some chosen) values append to wrong w = meant_graphic (extend chosen.now.href.items append) to w.0

place_graphic : (values : List Value) (append locatt to : List ℕ) (place : Value) (wrong : Note) → IsWayBy (Some place) values append locatt (Some to) wrong → All IsGraphic to
place_graphic values append locatt to place wrong (inl w) = absurd cc
place_graphic values append locatt to place wrong (inr w) = at_graphic w.1.1.0 values append to wrong w.1.1.1.1

from_graphic : (values : List Value) (append locatt to : List ℕ) (place : Option Value) (wrong : Note) → IsWayBy place values append locatt (Some to) wrong → All IsGraphic to
from_graphic values append locatt to None wrong w = url_graphic values append to wrong w
from_graphic values append locatt to (Some place) wrong w = place_graphic values append locatt to place wrong w

goes_located : (language : Language) (handle append locatt : List ℕ) (values : List Value) (way : Option (List ℕ)) (wrong : Note) (a : Answer) → IsWayFrom values append locatt way wrong → Goes language handle values way wrong a → IsLocated a
goes_located language handle append locatt values None wrong a w h = tells_located status.Success _ a (λ e. cc) h.told
goes_located language handle append locatt values (Some to) wrong a w h = leads_located handle to a (from_graphic values append locatt to w.0 wrong w.1.1) h.leads

follows_located : (language : Language) (handle append locatt : List ℕ) (values : List Value) (a : Answer) → Follows language handle append locatt values a → IsLocated a
follows_located language handle append locatt values a h = goes_located language handle append locatt values h.0 h.1 a h.2.0 h.2.1

unless_located : (gone : Option Value) (language : Language) (handle append locatt : List ℕ) (values : List Value) (a : Answer) → FollowsUnless gone language handle append locatt values a → IsLocated a
unless_located None language handle append locatt values a h = follows_located language handle append locatt values a h
unless_located (Some gone) language handle append locatt values a h = tells_located status.Gone _ a (λ e. cc) h.told

values_located : (form : AnswerFormat) (handle append locatt : List ℕ) (values : List Value) (a : Answer) → ShowsValues form handle append locatt values a → IsLocated a
values_located (Follow language) handle append locatt values a h = unless_located h.0 language handle append locatt values a h.1.1
values_located (Page language) handle append locatt values a h = tells_located status.Success _ a (λ e. cc) h.told
values_located Json handle append locatt values a h = tells_located status.Success _ a (λ e. cc) h.told
values_located Pretty handle append locatt values a h = tells_located status.Success _ a (λ e. cc) h.told

pub found_located : (form : AnswerFormat) (handle append locatt : List ℕ) (found : Found) (a : Answer) → ShowsFound form handle append locatt found a → IsLocated a
found_located form handle append locatt (Values values) a h = values_located form handle append locatt values.items a h
found_located form handle append locatt (Refused code) a h = tells_located (status_of_code code) _ a (no_code_follows code) h.told
found_located form handle append locatt Nothing a h = tells_located status.BadGateway _ a (λ e. cc) h.told

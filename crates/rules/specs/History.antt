-- What a run says of its apps: from its calls and their answers alone, never from the console's tables.
use Rattle.std.specs.Prelude.{ℕ, suc, Bool, cond, not, List, [], ◌∷◌, length, take, Some, None, Option, ◌==◌, slice_index, slice_set}
use Rattle.vocabulary.specs.declared.parameter.Parameter.{Parameter}
use Rattle.vocabulary.specs.declared.access.Access.{Access}
use Rattle.vocabulary.specs.declared.access.Access.TheVariants.{Read, Write, Fetch}
use Rattle.one_way.specs.Chains.{chain}
use Rattle.memory.specs.Pages.{Page, page_of, offset_of}
use Rattle.rules.specs.Console.{Setting, Executive, create, end, turn, close, Request, activate, visit, grant, revoke, derive, rekey, access, Call, exec, app, done, value, visited, Answer, refused, accepted, is_none, is_at}
use Rattle.rules.specs.Runs.{Run, answer}

-- an app, told by its accepted create
pub record App : Type 0 where
  -- how many calls the executive had made before that create: no two apps of a run have the same number
  pub create_number : ℕ
  pub slot : ℕ
  pub first_parameter : Parameter
  pub master : ℕ
  pub creation_domains : List ℕ

-- a password presented, and after which calls
pub record Presented : Type 0 where
  pub before : Run
  pub password : ℕ

-- the app that has a slot
pub record Holder : Type 0 where
  pub who : App
  -- that of its create, or of its last accepted rekey
  pub parameter : Parameter
  -- by place: those of its create, changed by its accepted grants and revokes
  pub domains : List ℕ
  -- by its last accepted activate, if there is one
  pub opened : Option Presented

-- an access that passed: its app, its domain, and the password presented for that domain, if one was
pub record Passed : Type 0 where
  pub what : Access
  pub who : App
  pub domain : ℕ
  pub opened : Option Presented

-- how many calls the executive has made
abbrev pub executive_calls : Run → ℕ
executive_calls [] = 0
executive_calls (exec e ∷ r) = suc (executive_calls r)
executive_calls (app q ∷ r) = executive_calls r

-- an app presents a password by calling activate or visit with it
abbrev pub presented : Request → Option ℕ
presented (activate w) = Some w
presented (visit w l b) = Some w
presented (grant w i c) = None
presented (revoke w i c) = None
presented (derive w n) = None
presented (rekey w p) = None
presented (access x) = None

-- the calls that the turns allow: create, end and turn between turns; close and the app's calls in one
abbrev pub turns_allow : Option ℕ → Call → Bool
turns_allow o (exec (create s p w ds)) = is_none o
turns_allow o (exec (end s)) = is_none o
turns_allow o (exec (turn s)) = is_none o
turns_allow o (exec close) = not (is_none o)
turns_allow o (app q) = not (is_none o)

-- ---- what one call changes, by its answer

-- the slot whose turn it is, after a call of the executive
abbrev pub running_after : Executive → Answer → Option ℕ → Option ℕ
running_after e (refused f) o = o
running_after (create s p w ds) (accepted a) o = o
running_after (end s) (accepted a) o = o
running_after (turn s) (accepted a) o = Some s
running_after close (accepted a) o = None

-- a new app's parameter and domains are those of its create
abbrev pub new_holder : App → Holder
new_holder X = record { who = X; parameter = X.first_parameter; domains = X.creation_domains; opened = None }

abbrev pub new_app : ℕ → ℕ → Parameter → ℕ → List ℕ → App
new_app n s p w ds = record { create_number = n; slot = s; first_parameter = p; master = w; creation_domains = ds }

-- the app that has slot s, after a call of the executive, its call number n
abbrev pub holder_after : ℕ → Executive → Answer → ℕ → Option Holder → Option Holder
holder_after n e (refused f) s o = o
holder_after n (create t p w ds) (accepted a) s o = cond (t == s) (Some (new_holder (new_app n t p w ds))) o
holder_after n (end t) (accepted a) s o = cond (t == s) None o
holder_after n (turn t) (accepted a) s o = o
holder_after n close (accepted a) s o = o

-- the domain or other number that is the answer
abbrev pub number_in : Answer → ℕ
number_in (refused f) = 0
number_in (accepted done) = 0
number_in (accepted (value d)) = d
number_in (accepted (visited n f b)) = 0

abbrev pub with_place : Holder → ℕ → ℕ → Holder
with_place X i d = record { who = X.who; parameter = X.parameter; domains = slice_set X.domains i d; opened = X.opened }

-- the app in turn, after a call of its own, made after run r
abbrev pub changed : Run → Request → Answer → Holder → Holder
changed r q (refused f) X = X
changed r (activate w) (accepted a) X =
    record { who = X.who; parameter = X.parameter; domains = X.domains; opened = Some (record { before = r; password = w }) }
changed r (visit w l b) (accepted a) X = X
changed r (grant w i c) (accepted a) X = with_place X i (number_in (accepted a))
changed r (revoke w i c) (accepted a) X = with_place X i (number_in (accepted a))
changed r (derive w n) (accepted a) X = X
changed r (rekey w p) (accepted a) X = record { who = X.who; parameter = p; domains = X.domains; opened = X.opened }
changed r (access x) (accepted a) X = X

abbrev pub map_option : {A B : Type 0} → (A → B) → Option A → Option B
map_option f None = None
map_option f (Some a) = Some (f a)

-- what stands at the slot, if there is one
abbrev pub at_slot : {A : Type 0} → (ℕ → Option A) → Option ℕ → Option A
at_slot f None = None
at_slot f (Some s) = f s

-- accesses of one call, put before those of the calls before, the newest first
abbrev pub onto : App → ℕ → Option Presented → List Access → List Passed → List Passed
onto X d o [] ps = ps
onto X d o (a ∷ l) ps = onto X d o l (record { what = a; who = X; domain = d; opened = o } ∷ ps)

-- the app that a call of the executive creates, its call number n
abbrev pub created : ℕ → Executive → Answer → Option App
created n e (refused f) = None
created n (create s p w ds) (accepted a) = Some (new_app n s p w ds)
created n (end s) (accepted a) = None
created n (turn s) (accepted a) = None
created n close (accepted a) = None

abbrev pub with_first : {A : Type 0} → Option A → List A → List A
with_first None l = l
with_first (Some a) l = a ∷ l

module _ (S : Setting) where
  -- ---- apps and turns

  -- the slot whose turn it is
  unfoldable pub running : Run → Option ℕ
  running [] = None
  running (exec e ∷ r) = running_after e (answer S r (exec e)) (running r)
  running (app q ∷ r) = running r

  -- the app that has slot s, until its end
  unfoldable pub holder : Run → ℕ → Option Holder
  holder [] s = None
  holder (exec e ∷ r) s = holder_after (executive_calls r) e (answer S r (exec e)) s (holder r s)
  holder (app q ∷ r) s = cond (is_at (running r) s) (map_option (changed r q (answer S r (app q))) (holder r s)) (holder r s)

  -- the app whose turn it is
  abbrev pub in_turn : Run → Option Holder
  in_turn r = at_slot (holder r) (running r)

  -- the apps of a run: its accepted creates, the newest first
  unfoldable pub apps : Run → List App
  apps [] = []
  apps (exec e ∷ r) = with_first (created (executive_calls r) e (answer S r (exec e))) (apps r)
  apps (app q ∷ r) = apps r

  -- ---- chains and domains

  -- the chain of an app: its create's master and then, up to as many passwords as creation domains, H of the one before
  abbrev pub chain_of : Holder → List ℕ
  chain_of X = chain S.machine.way.H X.parameter (length X.who.creation_domains) X.who.master

  -- the domain that w opens after r for the app whose turn it is: the one that activate is answered
  unfoldable pub found : Run → ℕ → ℕ
  found r w = number_in (answer S r (app (activate w)))

  -- the domain found for the password presented, else the create's at place 0
  abbrev pub found_by : App → Option Presented → ℕ
  found_by X None = slice_index X.creation_domains 0
  found_by X (Some o) = found o.before o.password

  -- the domain of an app's accesses outside visits: by its last accepted activate
  abbrev pub domain_of : Holder → ℕ
  domain_of X = found_by X.who X.opened

  -- ---- accesses

  -- in one call of app X, answered after r: an accepted access, or of a visit's list as many as the answer says were made
  abbrev pub passed_by : Run → Request → Answer → Holder → List Passed → List Passed
  passed_by r q (refused f) X ps = ps
  passed_by r (activate w) (accepted a) X ps = ps
  passed_by r (visit w l b) (accepted done) X ps = ps
  passed_by r (visit w l b) (accepted (value d)) X ps = ps
  passed_by r (visit w l b) (accepted (visited n f c)) X ps = onto X.who (found r w) (Some (record { before = r; password = w })) (take n l) ps
  passed_by r (grant w i c) (accepted a) X ps = ps
  passed_by r (revoke w i c) (accepted a) X ps = ps
  passed_by r (derive w n) (accepted a) X ps = ps
  passed_by r (rekey w p) (accepted a) X ps = ps
  passed_by r (access x) (accepted a) X ps = onto X.who (domain_of X) X.opened (x ∷ []) ps

  abbrev pub passed_in : Run → Request → Answer → Option Holder → List Passed → List Passed
  passed_in r q a None ps = ps
  passed_in r q a (Some X) ps = passed_by r q a X ps

  -- the accesses that passed in a run, the newest first
  unfoldable pub passed : Run → List Passed
  passed [] = []
  passed (exec e ∷ r) = passed r
  passed (app q ∷ r) = passed_in r q (answer S r (app q)) (in_turn r) (passed r)

  -- page q after one more access
  abbrev pub written_by : ℕ → Access → Page → Page
  written_by q (Read a) p = p
  written_by q (Write a b) p = cond (page_of a == q) (S.machine.effect q p (offset_of a) b) p
  written_by q (Fetch a) p = p

  -- page q: its boot state changed by the writes on it, in order
  abbrev pub written : ℕ → List Passed → Page
  written q [] = S.boot_page q
  written q (x ∷ ps) = written_by q x.what (written q ps)

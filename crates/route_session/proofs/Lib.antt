mod Best
mod BestStays
mod Computed
mod Sound
mod Judged
mod FirstBest
mod OverRuns

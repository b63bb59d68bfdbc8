-- What a request to a bench is; which words are free; what an opening and a closing do. Above: demands. Below: bench, sound.
pub mod Requests
pub mod Words
